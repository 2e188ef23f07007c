use Rattle.ghc_reader.proofs.Words.{◌≡◌, length, conses}
use Rattle.ghc_reader.proofs.lowering.lists.Lists.cells.Given as goal

abbrev pub invariant-loop-element : goal.invariant-loop-element
invariant-loop-element l = conses l.elements.items l.list ≡ conses l.initial.elements.items l.initial.list

abbrev pub decreases-loop-element : goal.decreases-loop-element
decreases-loop-element l = length l.elements.items
