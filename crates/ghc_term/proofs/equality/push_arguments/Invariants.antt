use Rattle.ghc_term.proofs.Words.{◌≡◌, ◌≤◌, suc, drop, length, trees, nodes_of_all, Adds}
use Rattle.ghc_term.proofs.equality.push_arguments.Given as goal

abbrev pub invariant-loop-index : goal.invariant-loop-index
invariant-loop-index l = (l.index ≤ length l.lefts) × Adds (drop l.index l.lefts ≡ drop l.index l.rights) (suc (nodes_of_all (trees (drop l.index l.lefts)))) l.initial.waiting.items l.waiting.items
