use Rattle.ghc_trace.proofs.Words.{string_bytes}
use Rattle.ghc_trace.proofs.LostSteps.{Passing}
use Rattle.ghc_trace.proofs.lost.write_steps.Given as goal

abbrev pub invariant-loop-place : goal.invariant-loop-place
invariant-loop-place l = Passing l.xs l.lost l.records.slots l.place (string_bytes l.fn.out) (string_bytes l.out)
