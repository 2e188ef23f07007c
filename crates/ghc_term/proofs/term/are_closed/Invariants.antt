use Rattle.ghc_term.proofs.Words.{take, trees, AreClosed}
use Rattle.ghc_term.proofs.term.are_closed.Given as goal

abbrev pub invariant-loop-term : goal.invariant-loop-term
invariant-loop-term l = AreClosed (trees (take l.term-index l.terms))
