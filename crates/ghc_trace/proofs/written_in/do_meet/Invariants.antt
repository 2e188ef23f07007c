use Rattle.ghc_trace.proofs.Words.{IsTrue, VarName, take}
use Rattle.std.specs.FinSet as set
use Rattle.ghc_trace.proofs.WrittenIn.{NoneOf}
use Rattle.ghc_trace.proofs.written_in.do_meet.Given as goal

abbrev pub invariant-loop-x : goal.invariant-loop-x
invariant-loop-x l = NoneOf (λ (x : VarName). IsTrue (set.contains l.xs x)) (take l.x-index l.x-items)
