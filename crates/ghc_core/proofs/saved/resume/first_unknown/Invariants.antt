use Rattle.ghc_core.proofs.Words.{take, ArePredicatesOf}
use Rattle.ghc_core.proofs.saved.resume.first_unknown.Given as goal

abbrev pub invariant-loop-index : goal.invariant-loop-index
invariant-loop-index l = ArePredicatesOf l.program (take l.index l.spies)
