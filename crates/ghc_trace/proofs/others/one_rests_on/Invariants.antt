use Rattle.ghc_trace.proofs.Resting.{IsSought, top}
use Rattle.ghc_trace.proofs.others.one_rests_on.Given as goal

abbrev pub invariant-loop-last : goal.invariant-loop-last
invariant-loop-last l = IsSought l.records.slots l.place l.xs l.behind.keys

abbrev pub decreases-loop-last : goal.decreases-loop-last
decreases-loop-last l = top l.behind.keys
