use Rattle.ghc_trace.proofs.Words.{take, value_at}
use Rattle.ghc_trace.specs.inner.PartsCode.{IsGivenIn}
use Rattle.ghc_trace.proofs.PartFinding.{AreGiven}
use Rattle.ghc_trace.proofs.call_given.given_among.Given as goal

abbrev pub invariant-loop-x : goal.invariant-loop-x
invariant-loop-x l = AreGiven (IsGivenIn l.records.held l.part.keys (value_at l.store.held)) (take l.x-index l.xs) l.given.items
