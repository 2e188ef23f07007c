use Rattle.ghc_reader.specs.inner.Views.{goal_views}
use Rattle.ghc_reader.proofs.ClausesLowered.{query_said}
use Rattle.ghc_reader.proofs.WithinLimits.{few_asked, query_well_asked}
use Rattle.ghc_reader.proofs.lowering.queries.lower_query.Goals as goal

pub lower_asked-requires : goal.lower_asked-requires
lower_asked-requires c = few_asked c.args.goals.now c.requires

pub returns : goal.returns
returns c = query_said (goal_views c.args.goals.now) (record { goals = c.in_ok-lowered.lowered.items; variables = c.into_names.result.items }) c.new-scope.result c.lower_asked.new.scope c.new-scope.ensures c.into_names.ensures c.in_ok-lowered.ensures.says c.in_ok-lowered.ensures.met c.in_ok-lowered.ensures.streams

pub invariant_of-result : goal.invariant_of-result
invariant_of-result c =
    let q = query_said (goal_views c.args.goals.now) (record { goals = c.in_ok-lowered.lowered.items; variables = c.into_names.result.items }) c.new-scope.result c.lower_asked.new.scope c.new-scope.ensures c.into_names.ensures c.in_ok-lowered.ensures.says c.in_ok-lowered.ensures.met c.in_ok-lowered.ensures.streams in
    query_well_asked (goal_views c.args.goals.now) _ c.requires q
