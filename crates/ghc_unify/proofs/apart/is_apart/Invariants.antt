use Rattle.ghc_unify.proofs.Words.{ℕ, List, take, node, trees, Reaches, value_at}
use Rattle.ghc_unify.proofs.apart.is_apart.Given as goal

abbrev pub invariant-loop-argument : goal.invariant-loop-argument
invariant-loop-argument l = (f : List ℕ) → ¬ Reaches (value_at l.store.held) (node f (trees (take l.argument-index l.arguments))) l.x
