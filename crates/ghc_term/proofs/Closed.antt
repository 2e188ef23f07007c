-- No variable stands in a tree of the grammar.
use Rattle.ghc_term.proofs.Words.{inl, inr, VarName, Tree, variable, integer, node, Trees, none, more, Occurs, OccursIn, IsInGrammar, AllInGrammar}

mutual
  pub closed : (t : Tree) → IsInGrammar t → (x : VarName) → ¬ Occurs x t
  closed (variable y) g x o = g
  closed (integer k) g x o = o
  closed (node f ts) g x o = all_closed ts g.1 x o

  pub all_closed : (ts : Trees) → AllInGrammar ts → (x : VarName) → ¬ OccursIn x ts
  all_closed none g x o = o
  all_closed (more t ts) g x (inl o) = closed t g.0 x o
  all_closed (more t ts) g x (inr o) = all_closed ts g.1 x o
