use Rattle.ghc_term.proofs.Words.{map, value_in}
use Rattle.ghc_term.specs.inner.Walking.{Walking}
use Rattle.ghc_term.proofs.Merged.{all_bound}
use Rattle.ghc_term.proofs.Searching.{sizes}
use Rattle.ghc_term.proofs.overlay.Overlay.learn.Given as goal

abbrev pub invariant-loop-term : goal.invariant-loop-term
invariant-loop-term l = Walking (value_in l.self) l.known (map (λ t. t.now) l.waiting.items)

abbrev pub decreases-loop-term : goal.decreases-loop-term
decreases-loop-term l = sizes (all_bound l.self) (map (λ t. t.now) l.waiting.items)
