use Rattle.ghc_hooks.proofs.Words.{◌≡◌, ◌∷◌, map, rules, IfOk-weaker, value_at, leaves}
use Rattle.ghc_hooks.proofs.Reaching.{with_leaves}
use Rattle.ghc_hooks.proofs.reached.reached_with_leaves.Goals as goal

pub returns : goal.returns
returns c =
    let S = value_at c.args.store.now.held in
    let pushed : map (λ t. t.now) c.push_leaves.new.terms.items ≡ c.args.term.now ∷ leaves c.args.expression.now = search rules in
    IfOk-weaker c.reached_from.result _ _ (λ xs all. with_leaves S _ c.args.term.now c.args.expression.now xs pushed all) c.reached_from.ensures
