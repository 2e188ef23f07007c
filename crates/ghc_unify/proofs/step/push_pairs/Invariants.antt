use Rattle.ghc_unify.proofs.Words.{◌≡◌, ◌≤◌, List, ◌++◌, drop, length, reverse, Tree, trees, Pairs}
use Rattle.ghc_unify.proofs.step.push_pairs.Given as goal

abbrev pub invariant-loop-index : goal.invariant-loop-index
invariant-loop-index l = (l.index ≤ length l.lefts) × ((new : List (Tree × Tree)) × Pairs (trees (drop l.index l.lefts)) (trees (drop l.index l.rights)) new × (reverse l.equations.items ≡ new ++ reverse l.initial.equations.items))
