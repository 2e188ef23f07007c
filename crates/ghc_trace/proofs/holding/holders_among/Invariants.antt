use Rattle.ghc_trace.proofs.Words.{◌≡◌, ◌++◌, [], List, value_at}
use Rattle.std.specs.FinMap as finite
use Rattle.ghc_trace.specs.GoalLines.{Named}
use Rattle.ghc_trace.specs.inner.GoalLinesCode.{lent}
use Rattle.ghc_trace.specs.Holding.{HasGained}
use Rattle.ghc_trace.proofs.Held.{IsHeldOfThem}
use Rattle.ghc_trace.proofs.holding.holders_among.Given as goal

abbrev pub invariant-loop-name : goal.invariant-loop-name
invariant-loop-name l =
    (done : List Named) × (finite.entries l.core.world.state.goals ≡ done ++ lent l.name-iterator) × HasGained [] l.held.keys (IsHeldOfThem (value_at l.core.world.state.store) l.variables done)
