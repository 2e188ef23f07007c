-- The trees of input terms: closed, written with the names of the grammar, and within the limits.
use Rattle.std.specs.Prelude.{◌≢◌, ◌⊎◌, ℕ, ◌+◌, ◌-◌, ◌≤◌, max, length, List, [], ◌∷◌, Bool, IsTrue, ◌==◌, ◌||◌, codes, if◌then◌else◌, FitsSigned}
use Rattle.std.specs.Int.{w64}
use Rattle.std.specs.Char.{is_ascii_digit, is_ascii_lowercase, is_ascii_uppercase}
use Rattle.std.specs.List.{list_all}
use Rattle.ghc_term.specs.Limit.{text_limit}
use Rattle.ghc_term.specs.Tree.{Tree, variable, integer, node, Trees, none, more, list_of}
use Rattle.ghc_term.specs.Text.{is_cell, is_nil, term_text}

-- a letter, a digit or `_`
abbrev pub is_name_byte : ℕ → Bool
is_name_byte b = is_ascii_lowercase b || is_ascii_uppercase b || is_ascii_digit b || b == 95

-- a name of the grammar: a small letter, then letters, digits and `_`; `mod` is an operator and no name
abbrev pub IsNameText : List ℕ → Type 0
IsNameText [] = ⊥
IsNameText (b ∷ bs) = IsTrue (is_ascii_lowercase b) × IsTrue (list_all is_name_byte bs) × (b ∷ bs ≢ codes "mod")

-- this name stands over these arguments in the grammar: `[]`, a list cell, or a name over at most 255 arguments
abbrev pub IsHead : List ℕ → Trees → Type 0
IsHead f ts = IsTrue (is_nil f ts) ⊎ (IsTrue (is_cell f ts) ⊎ (IsNameText f × (length (list_of ts) ≤ 255)))

abbrev mutual
  -- the grammar has a text for the tree: no variable stands in it, and its integers have 64 bits
  pub IsInGrammar : Tree → Type 0
  IsInGrammar (variable _) = ⊥
  IsInGrammar (integer k) = FitsSigned w64 k
  IsInGrammar (node f ts) = IsHead f ts × AllInGrammar ts

  -- .. for each of the trees
  pub AllInGrammar : Trees → Type 0
  AllInGrammar none = Unit {0}
  AllInGrammar (more t ts) = IsInGrammar t × AllInGrammar ts

abbrev mutual
  -- how many nodes a tree has: each variable, integer, atom, structure and list cell is one
  pub nodes : Tree → ℕ
  nodes (variable _) = 1
  nodes (integer _) = 1
  nodes (node _ ts) = 1 + nodes_of_all ts

  pub nodes_of_all : Trees → ℕ
  nodes_of_all none = 0
  nodes_of_all (more t ts) = nodes t + nodes_of_all ts

abbrev mutual
  -- how many brackets stand open at one place in the text of a term, at most; a list opens one however long it is, and `[]` is one
  pub nesting : Tree → ℕ
  nesting (variable _) = 0
  nesting (integer _) = 0
  nesting (node f ts) = if is_cell f ts then 1 + cell_nesting ts else if is_nil f ts then 1 else arguments_nesting ts

  -- .. inside the brackets of a list
  pub cell_nesting : Trees → ℕ
  cell_nesting (more t (more u none)) = max (nesting t) (rest_nesting u)
  cell_nesting _ = 0

  -- .. in the rest of a list
  pub rest_nesting : Tree → ℕ
  rest_nesting (variable _) = 0
  rest_nesting (integer _) = 0
  rest_nesting (node f ts) = if is_nil f ts then 0 else if is_cell f ts then cell_nesting ts else arguments_nesting ts

  -- .. in the arguments of a structure with their parentheses, which an atom has none of
  pub arguments_nesting : Trees → ℕ
  arguments_nesting none = 0
  arguments_nesting (more t ts) = 1 + max (nesting t) (deepest ts)

  -- .. in the deepest of the trees
  pub deepest : Trees → ℕ
  deepest none = 0
  deepest (more t ts) = max (nesting t) (deepest ts)

-- the tree of a term that may be an input: in the grammar, and within the limits
pub record IsInputTerm (t : Tree) : Type 0 where
  pub grammar : IsInGrammar t
  pub size : nodes t ≤ 10000
  pub nested : nesting t ≤ 64
  pub text : length (term_text t) ≤ text_limit

-- how many brackets are open after a byte; a closing one takes one off, never below zero
abbrev pub open_behind : ℕ → ℕ → ℕ
open_behind k b = if b == 40 || b == 91 then k + 1 else if b == 41 || b == 93 then k - 1 else k

-- the most brackets that stand open at one place of a text, with k open before it
abbrev pub most_open : ℕ → List ℕ → ℕ
most_open k [] = k
most_open k (b ∷ bs) = max k (most_open (open_behind k b) bs)
