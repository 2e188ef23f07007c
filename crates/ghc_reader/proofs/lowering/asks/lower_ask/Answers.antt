use Rattle.ghc_reader.proofs.Words.{rules, goal_views, Each, IsNaming}
use Rattle.ghc_reader.proofs.AsksLowered.{ask_said}
use Rattle.ghc_reader.proofs.WithinLimits.{ask_well_put}
use Rattle.ghc_reader.proofs.lowering.asks.lower_ask.Goals as goal

pub returns : goal.returns
returns c =
    let named : Each (IsNaming c.args.query.now) c.lower_body.new.scope c.in_ok-named.named.items = search rules in
    ask_said c.args.query.now (goal_views c.args.goals.now) (record { goals = c.in_ok-lowered.lowered.items; named = c.in_ok-named.named.items }) c.new-scope.result c.lower_body.new.scope c.new-scope.ensures c.in_ok-lowered.ensures.says c.in_ok-lowered.ensures.met named

pub invariant_of-result : goal.invariant_of-result
invariant_of-result c =
    let named : Each (IsNaming c.args.query.now) c.lower_body.new.scope c.in_ok-named.named.items = search rules in
    ask_well_put c.args.query.now (goal_views c.args.goals.now) (record { goals = c.in_ok-lowered.lowered.items; named = c.in_ok-named.named.items }) c.requires (ask_said c.args.query.now (goal_views c.args.goals.now) (record { goals = c.in_ok-lowered.lowered.items; named = c.in_ok-named.named.items }) c.new-scope.result c.lower_body.new.scope c.new-scope.ensures c.in_ok-lowered.ensures.says c.in_ok-lowered.ensures.met named)
