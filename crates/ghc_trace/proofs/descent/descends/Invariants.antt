use Rattle.ghc_trace.proofs.Words.{◌↔◌, Descends}
use Rattle.ghc_trace.proofs.WayUp.{far}
use Rattle.ghc_trace.proofs.descent.descends.Given as goal

-- the goal reached descends from the root where the goal asked for does
abbrev pub invariant-loop-records : goal.invariant-loop-records
invariant-loop-records l = Descends l.core.world.kept l.root l.current ↔ Descends l.core.world.kept l.root l.initial.current

abbrev pub decreases-loop-records : goal.decreases-loop-records
decreases-loop-records l = far l.core.world.kept l.current.step
