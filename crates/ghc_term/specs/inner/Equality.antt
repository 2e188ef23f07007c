-- When two terms, two expressions or two goals are the same, by what is left to be compared.
use Rattle.std.specs.Prelude.{◌≡◌, ◌↔◌, ℕ, suc, ◌+◌, ◌<◌, Bool, true, false, List, [], ◌∷◌, ◌++◌, Some}
use Rattle.ghc_term.specs.declared.var_name.VarName.{VarName}
use Rattle.ghc_term.specs.Store.{StoreValue, value_at}
use Rattle.ghc_term.specs.declared.equality.Pair.{Pair}
use Rattle.ghc_term.specs.declared.equality.Pair.TheVariants.{Terms, Exprs}
use Rattle.ghc_term.specs.Expression.{Expression, leaf, operation}
use Rattle.ghc_term.specs.Goal.{Goal, call, unify, assign, stream}
use Rattle.ghc_term.specs.Tree.{Tree, trees}
use Rattle.ghc_term.specs.InputTerm.{nodes, nodes_of_all}

-- The two sides of the pair are the same.
abbrev pub IsAlike : Pair → Type 0
IsAlike (Terms t u) = t.now ≡ u.now
IsAlike (Exprs a b) = a.now ≡ b.now

-- Each pair has two sides that are the same.
abbrev pub AreAlike : List Pair → Type 0
AreAlike [] = Unit {0}
AreAlike (p ∷ ps) = IsAlike p × AreAlike ps

-- how many nodes an expression has, its operators among them
abbrev pub expression_nodes : Expression → ℕ
expression_nodes (leaf t) = suc (nodes t)
expression_nodes (operation _ a b) = suc (expression_nodes a + expression_nodes b)

-- how many nodes a goal has, with one for itself
abbrev pub goal_nodes : Goal → ℕ
goal_nodes (call _ ts) = suc (nodes_of_all (trees ts))
goal_nodes (unify t u) = suc (nodes t + nodes u)
goal_nodes (assign t a) = suc (nodes t + expression_nodes a)
goal_nodes (stream _ _) = 1

-- how many nodes the left side of a pair has
abbrev pub left_nodes : Pair → ℕ
left_nodes (Terms t u) = nodes t.now
left_nodes (Exprs a b) = expression_nodes a.now

-- how many nodes the left sides of pairs have
abbrev pub all_left_nodes : List Pair → ℕ
all_left_nodes [] = 0
all_left_nodes (p ∷ ps) = left_nodes p + all_left_nodes ps

-- Pairs were added to the old ones: they have fewer than n nodes on the left, and each is alike exactly where P holds.
pub record Adds (P : Type 0) (n : ℕ) (old new : List Pair) : Type 0 where
  pub added : List Pair
  pub behind : new ≡ old ++ added
  pub decide : P ↔ AreAlike added
  pub fewer : all_left_nodes added < n

-- The answer to whether P holds: it does not, or it holds exactly where each of the added pairs is alike.
pub record Compared (P : Type 0) (n : ℕ) (old new : List Pair) (same : Bool) : Type 0 where
  pub no : same ≡ false → ¬ P
  pub yes : same ≡ true → Adds P n old new

-- Each binding of the one is a binding of the other.
abbrev pub IsWithin : StoreValue → StoreValue → Type 0
IsWithin a b = (x : VarName) (t : Tree) → value_at a x ≡ Some t → value_at b x ≡ Some t
