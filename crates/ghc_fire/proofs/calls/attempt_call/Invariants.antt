use Rattle.ghc_fire.proofs.Words.{length, value_at}
use Rattle.ghc_fire.proofs.Calling.{Tried}
use Rattle.ghc_fire.proofs.calls.attempt_call.Given as goal

-- of the clauses so far none is taken
abbrev pub invariant-loop-number : goal.invariant-loop-number
invariant-loop-number l = Tried l.program l.name l.arguments (value_at l.store.held) l.candidates l.waits

abbrev pub decreases-loop-number : goal.decreases-loop-number
decreases-loop-number l = length l.candidates
