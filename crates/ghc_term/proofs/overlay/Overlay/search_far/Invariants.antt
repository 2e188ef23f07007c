use Rattle.ghc_term.proofs.Words.{value_in}
use Rattle.ghc_term.proofs.Far.{Far}
use Rattle.ghc_term.proofs.overlay.Overlay.search_far.Given as goal

abbrev pub invariant-loop-index : goal.invariant-loop-index
invariant-loop-index l = Far (value_in l.self) l.to l.from l.seen l.index
