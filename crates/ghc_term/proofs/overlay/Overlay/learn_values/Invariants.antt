use Rattle.ghc_term.proofs.Words.{value_in}
use Rattle.ghc_term.specs.inner.Walking.{AreFirstKnown}
use Rattle.ghc_term.proofs.overlay.Overlay.learn_values.Given as goal

abbrev pub invariant-loop-index : goal.invariant-loop-index
invariant-loop-index l = AreFirstKnown (value_in l.self) l.index l.known
