use Rattle.ghc_core.proofs.Words.{◌≡◌, ap, sym, ◌∙◌, Some, same_value}
use Rattle.std.specs.FinMap as finite
use Rattle.ghc_core.proofs.Redone.{if_ok}
use Rattle.ghc_core.proofs.changes.redo.is_there.Goals as goal

pub returns-in-Some-get : goal.returns-in-Some-get
returns-in-Some-get c =
    let goals = c.args.goals.now.held in
    let r = c.args.step.now in
    let b = c.in-Some-get.goal.now in
    let named : r.goal ≡ Some c.in-Some.name = sym c.goal.ensures ∙ c.in-Some.is in
    let there : finite.get goals c.in-Some.name ≡ Some b = sym c.in-Some-get.ensures in
    if_ok c.same.result c.same.ensures (λ yes same. (
      λ t. rw named (b, c.requires ∙ ap Some (sym (same.0 t)), there),
      λ h. let k = rw named at h in same.1 (same_value there k.2 ∙ same_value k.1 c.requires),
    ))
