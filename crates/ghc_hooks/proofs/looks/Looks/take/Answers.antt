use Rattle.ghc_hooks.proofs.Words.{◌∙◌, ap, refl, sym, subst, IsSome, value_is, same, name_total, name_antisymmetric, arith}
use Rattle.std.specs.FinMap as finite
use Rattle.ghc_term.proofs.Entries.{same_is}
use Rattle.ghc_hooks.proofs.Under.{take_through, none_through}
use Rattle.ghc_hooks.proofs.looks.Looks.take.Goals as goal

pub returns-in-Some-clause-left : goal.returns-in-Some-clause-left
returns-in-Some-clause-left c =
    let w = c.remove.new.self in
    let updates = (c.get_mut.follows.holds w).3 (subst IsSome c.in-Some.ensures.value refl) in
    take_through c.self.inside.several.entries (c.get_mut.follows.lender w).entries c.self.inside.single.held c.args.self.now c.self.view_is c.args.x w updates.0 c.in-Some.goals.now c.in-Some.ensures.value c.args.goal c.remove.ensures

pub returns-in-Some-clause-none : goal.returns-in-Some-clause-none
returns-in-Some-clause-none c emptied = grind (arith, none_through)

pub returns-clause-left : goal.returns-clause-left
returns-clause-left c =
    absurd (c.requires (sym (c.in_default.ensures.value ∙ value_is name_total name_antisymmetric same same_is c.args.x c.self.inside.several.entries ∙ ap (λ m. finite.get m.several c.args.x) c.self.view_is)))
