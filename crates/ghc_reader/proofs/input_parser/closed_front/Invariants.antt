use Rattle.std.proofs.Common.{length}
use Rattle.ghc_reader.proofs.InputFaults.{ClosedSoFar}
use Rattle.ghc_reader.proofs.input_parser.closed_front.Given as goal

abbrev pub invariant-loop-token : goal.invariant-loop-token
invariant-loop-token l = ClosedSoFar l.tokens l.rest

abbrev pub decreases-loop-token : goal.decreases-loop-token
decreases-loop-token l = length l.rest
