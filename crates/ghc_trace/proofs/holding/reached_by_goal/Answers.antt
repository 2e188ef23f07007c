use Rattle.ghc_trace.proofs.Words.{◌≡◌, map, value_at}
use Rattle.std.proofs.Common.{rules}
use Rattle.ghc_trace.specs.Holding.{goal_terms}
use Rattle.ghc_core.proofs.Redone.{if_ok}
use Rattle.ghc_trace.proofs.Held.{reached_of}
use Rattle.ghc_trace.proofs.holding.reached_by_goal.Goals.{in-Call+in_ok-push_arguments-in-Call, in-Unify+in_ok-push-in-Unify+in_ok-push-in-Unify-2, in-Assign+in_ok-push-in-Assign+in_ok-push_leaves-in-Assign}
use Rattle.ghc_trace.proofs.holding.reached_by_goal.Goals as goal

pub returns : goal.returns
returns c =
    let terms = map (λ t. t.now) c.match-view.terms.items in
    let are : goal_terms c.args.goal.now ≡ terms =
    elim c.match-view.branch [
      | in-Call+in_ok-push_arguments-in-Call w ↦ search rules
      | in-Unify+in_ok-push-in-Unify+in_ok-push-in-Unify-2 w ↦ search rules
      | in-Assign+in_ok-push-in-Assign+in_ok-push_leaves-in-Assign w ↦ search rules
    ] in
    if_ok c.reached_from.result c.reached_from.ensures (λ xs s. reached_of (value_at c.args.store.now.held) c.args.goal.now terms xs are s)
