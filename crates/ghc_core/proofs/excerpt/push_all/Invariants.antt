use Rattle.ghc_core.proofs.Words.{map, take}
use Rattle.ghc_core.specs.inner.CutOut.{OpenOnesWait}
use Rattle.ghc_core.proofs.excerpt.push_all.Given as goal

abbrev pub invariant-loop-term : goal.invariant-loop-term
invariant-loop-term l = OpenOnesWait (take l.term-index l.terms) (map (λ t. t.now) l.initial.waiting.items) (map (λ t. t.now) l.waiting.items)
