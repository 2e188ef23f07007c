use Rattle.ghc_hooks.proofs.Words.{◌≡◌, map, ap, ◌∙◌, IfOk-weaker, GoalName, Goal}
use Rattle.std.specs.FinMap as finite
use Rattle.ghc_hooks.proofs.FoundFace.{names_kept}
use Rattle.ghc_hooks.proofs.face.pools.names_of.Goals as goal

pub returns : goal.returns
returns c =
    let kept = names_kept (λ t. t.now) c.in_ok-by_name.field-0.entries ∙ ap (map (λ (e : GoalName × Goal). e.0)) c.in_ok-by_name.ensures in
    IfOk-weaker c.names_in.result _ (λ v. v.items ≡ finite.keys c.args.goals.now.held) (λ v e. e ∙ kept) c.names_in.ensures
