use Rattle.ghc_hooks.proofs.Words.{◌≡◌, ◌∙◌, ap, removed, same, name_total, name_antisymmetric, GoalsByVariable, looks}
use Rattle.std.specs.FinMap as finite
use Rattle.ghc_term.proofs.Entries.{same_is}
use Rattle.ghc_hooks.proofs.Under.{forgotten}
use Rattle.ghc_hooks.proofs.looks.Looks.forget.Goals as goal

pub returns : goal.returns
returns c y h =
    let m = c.args.self.now in
    let sets : finite.from_entries c.swap_remove.new.self.entries ≡ finite.remove m.several c.args.x =
    removed name_total name_antisymmetric same same_is c.self.inside.several.entries c.swap_remove.new.self.entries c.args.x c.swap_remove.ensures.updates.0 ∙ ap (λ v. finite.remove v.several c.args.x) c.self.view_is in
    let singles : c.remove.new.self.held ≡ finite.remove m.single c.args.x = c.remove.ensures.held ∙ ap (λ v. finite.remove v.single c.args.x) c.self.view_is in
    ap (λ (v : GoalsByVariable). looks v y h) (λ i. record { several = sets i; single = singles i }) ∙ forgotten m c.args.x c.requires y h
