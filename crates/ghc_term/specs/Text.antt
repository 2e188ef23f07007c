-- The texts of terms as they are written.
use Rattle.std.specs.Prelude.{◌≢◌, ℕ, Bool, false, List, [], ◌++◌, codes, bytes_eq, if◌then◌else◌}
use Rattle.std.specs.Fmt.{decimal, signed_decimal}
use Rattle.ghc_term.specs.declared.var_name.VarName.{VarName}
use Rattle.ghc_term.specs.Tree.{Tree, variable, integer, node, Trees, none, more, cons}

-- a variable, `_n_m`
abbrev pub variable_text : VarName → List ℕ
variable_text x = codes "_" ++ (decimal x.step ++ (codes "_" ++ decimal x.place))

-- the node of this name over these arguments is a list cell
abbrev pub is_cell : List ℕ → Trees → Bool
is_cell f (more _ (more _ none)) = bytes_eq f (codes ".")
is_cell f _ = false

-- the node of this name over these arguments is the empty list
abbrev pub is_nil : List ℕ → Trees → Bool
is_nil f none = bytes_eq f (codes "[]")
is_nil f _ = false

-- the tree is no list cell
abbrev pub IsNoCell : Tree → Type 0
IsNoCell e = (t u : Tree) → e ≢ cons t u

-- the rest of a list that is no list
abbrev pub barred : List ℕ → List ℕ
barred text = codes "|" ++ (text ++ codes "]")

abbrev mutual
  -- a term: `_n_m`, an integer, an atom, `f(T,T)`, `[T,T]` or `[T,T|T]`
  pub term_text : Tree → List ℕ
  term_text (variable x) = variable_text x
  term_text (integer k) = signed_decimal k
  term_text (node f ts) = if is_cell f ts then codes "[" ++ cell_text ts else f ++ arguments_text ts

  -- the inside of a list cell, up to the closing bracket
  pub cell_text : Trees → List ℕ
  cell_text (more t (more u none)) = term_text t ++ rest_text u
  cell_text _ = []

  -- the rest of a list, up to the closing bracket
  pub rest_text : Tree → List ℕ
  rest_text (variable x) = barred (variable_text x)
  rest_text (integer k) = barred (signed_decimal k)
  rest_text (node f ts) =
      if is_nil f ts then codes "]" else if is_cell f ts then codes "," ++ cell_text ts else barred (f ++ arguments_text ts)

  -- the arguments of a structure in parentheses, and nothing for an atom
  pub arguments_text : Trees → List ℕ
  arguments_text none = []
  arguments_text (more t ts) = codes "(" ++ (term_text t ++ further_text ts)

  -- further arguments, up to the closing parenthesis
  pub further_text : Trees → List ℕ
  further_text none = codes ")"
  further_text (more t ts) = codes "," ++ (term_text t ++ further_text ts)
