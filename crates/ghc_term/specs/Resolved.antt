-- Trees whose variables are replaced by what they lead to.
use Rattle.std.specs.Prelude.{◌≡◌, ℕ, List, [], ◌∷◌, Option, Some, None}
use Rattle.ghc_term.specs.declared.var_name.VarName.{VarName}
use Rattle.ghc_term.specs.Tree.{Tree, variable, integer, node, Trees, none, more}
use Rattle.ghc_term.specs.Text.{term_text}

mutual
  -- Resolves S t u: u is t with every variable replaced by what it leads to.
  pub data Resolves (S : VarName → Option Tree) : Tree → Tree → Type 0 where
    an_integer : {k : _} → Resolves S (integer k) (integer k)
    unbound : {x : VarName} → S x ≡ None → Resolves S (variable x) (variable x)
    bound : {x : VarName} {t u : Tree} → S x ≡ Some t → Resolves S t u → Resolves S (variable x) u
    a_node : {f : List ℕ} {ts us : Trees} → ResolvesAll S ts us → Resolves S (node f ts) (node f us)

  pub data ResolvesAll (S : VarName → Option Tree) : Trees → Trees → Type 0 where
    no_more : ResolvesAll S none none
    one_more : {t u : Tree} {ts us : Trees} → Resolves S t u → ResolvesAll S ts us → ResolvesAll S (more t ts) (more u us)

-- r gives each tree the one that it resolves to
abbrev pub IsResolution : (VarName → Option Tree) → (Tree → Tree) → Type 0
IsResolution S r = (t : Tree) → Resolves S t (r t)

-- what r gives for each of some trees, as the arguments of a node
abbrev pub all_resolved : (Tree → Tree) → List Tree → Trees
all_resolved r [] = none
all_resolved r (t ∷ ts) = more (r t) (all_resolved r ts)

-- the text is that of the one tree that t is resolved to
pub record IsTextOf (S : VarName → Option Tree) (t : Tree) (text : List ℕ) : Type 0 where
  pub resolved : Tree
  pub resolves : Resolves S t resolved
  pub only : (u : Tree) → Resolves S t u → u ≡ resolved
  pub written : text ≡ term_text resolved
