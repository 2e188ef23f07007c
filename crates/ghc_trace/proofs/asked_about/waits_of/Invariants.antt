use Rattle.ghc_trace.proofs.Words.{◌≡◌, ◌++◌, List, Named, lent}
use Rattle.std.specs.FinMap as finite
use Rattle.ghc_trace.proofs.AskedAbout.{AreWaitsOf}
use Rattle.ghc_trace.proofs.asked_about.waits_of.Given as goal

abbrev pub invariant-loop-name : goal.invariant-loop-name
invariant-loop-name l = (done : List Named) × (finite.entries l.core.world.state.goals ≡ done ++ lent l.name-iterator) × AreWaitsOf l.core.world done l.waits
