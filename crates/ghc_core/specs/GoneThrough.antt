-- How many terms are gone through for an excerpt of a call.
use Rattle.std.specs.Prelude.{◌≡◌, ◌≤◌, ◌+◌, ℕ, List, Option, Some, None}
use Rattle.ghc_term.specs.declared.var_name.VarName.{VarName}
use Rattle.ghc_term.specs.Tree.{Tree, variable, node, Trees, none, more, trees, IsClosed}

mutual
  -- GoesThrough S t n: n terms are gone through for t, where S tells what variables are bound to. For a term that is closed as written it is none. For a variable it is the variable, and what is gone through for its value, if it is bound. For another structure it is the structure, and what is gone through for its arguments.
  pub data GoesThrough (S : VarName → Option Tree) : Tree → ℕ → Type 0 where
    closed : {t : Tree} → IsClosed t → GoesThrough S t 0
    unbound : {x : VarName} → S x ≡ None → GoesThrough S (variable x) 1
    bound : {x : VarName} {u : Tree} {n : ℕ} → S x ≡ Some u → GoesThrough S u n → GoesThrough S (variable x) (n + 1)
    structure : {f : List ℕ} {ts : Trees} {n : ℕ} → ¬ IsClosed (node f ts) → GoThrough S ts n → GoesThrough S (node f ts) (n + 1)

  -- GoThrough S ts n: n terms are gone through for all of ts.
  pub data GoThrough (S : VarName → Option Tree) : Trees → ℕ → Type 0 where
    no_term : GoThrough S none 0
    terms : {t : Tree} {ts : Trees} {m n : ℕ} → GoesThrough S t m → GoThrough S ts n → GoThrough S (more t ts) (m + n)

-- At most 64 terms are gone through for the terms ts.
abbrev pub ReachFew : (VarName → Option Tree) → List Tree → Type 0
ReachFew S ts = (n : ℕ) × GoThrough S (trees ts) n × (n ≤ 64)
