use Rattle.ghc_term.proofs.Words.{◌↔◌, AreAlike, all_left_nodes}
use Rattle.ghc_term.proofs.equality.are_alike.Given as goal

abbrev pub invariant-loop-pair : goal.invariant-loop-pair
invariant-loop-pair l = AreAlike l.waiting.items ↔ AreAlike l.initial.waiting.items

abbrev pub decreases-loop-pair : goal.decreases-loop-pair
decreases-loop-pair l = all_left_nodes l.waiting.items
