use Rattle.ghc_hooks.proofs.Words.{◌∙◌, ap, refl, sym, subst, IsSome, on_ok_weaker, on_err_weaker, value_is, same, name_total, name_antisymmetric}
use Rattle.std.specs.FinMap as finite
use Rattle.ghc_term.proofs.Entries.{same_is}
use Rattle.ghc_hooks.proofs.Under.{put_through, keep_through}
use Rattle.ghc_hooks.proofs.looks.Looks.add_to_set.Goals as goal

pub returns-in-Some-clause-ok : goal.returns-in-Some-clause-ok
returns-in-Some-clause-ok c =
    let w = c.insert.new.self in
    let updates = (c.get_mut.follows.holds w).3 (subst IsSome c.in-Some.ensures.value refl) in
    on_ok_weaker c.insert.result
    (put_through c.self.inside.several.entries (c.get_mut.follows.lender w).entries c.self.inside.single.held c.args.self.now c.self.view_is c.args.x w updates.0 c.in-Some.goals.now c.in-Some.ensures.value c.args.goal)
    c.insert.ensures.ok

pub returns-in-Some-clause-err : goal.returns-in-Some-clause-err
returns-in-Some-clause-err c =
    let w = c.insert.new.self in
    let updates = (c.get_mut.follows.holds w).3 (subst IsSome c.in-Some.ensures.value refl) in
    on_err_weaker c.insert.result
    (keep_through c.self.inside.several.entries (c.get_mut.follows.lender w).entries c.self.inside.single.held c.args.self.now c.self.view_is c.args.x w updates.0 c.in-Some.goals.now c.in-Some.ensures.value)
    c.insert.ensures.err

pub returns-clause-ok : goal.returns-clause-ok
returns-clause-ok c =
    absurd (c.requires (sym (c.in_default.ensures.value ∙ value_is name_total name_antisymmetric same same_is c.args.x c.self.inside.several.entries ∙ ap (λ m. finite.get m.several c.args.x) c.self.view_is)))
