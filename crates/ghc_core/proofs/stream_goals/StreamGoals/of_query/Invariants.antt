use Rattle.ghc_core.proofs.Words.{◌≡◌, take, opened}
use Rattle.ghc_core.proofs.stream_goals.StreamGoals.of_query.Given as goal

abbrev pub invariant-loop-index : goal.invariant-loop-index
invariant-loop-index l = l.names.items ≡ opened 1 (take l.index l.goals)
