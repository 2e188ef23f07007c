-- What the tables of a program give for a value in the first place.
use Rattle.std.specs.Prelude.{◌≡◌, ℕ, zero, suc, Bool, true, false, List, [], ◌∷◌, filter, Option, Some, None, slice_get, nat_eq, bytes_eq}
use Rattle.std.specs.Ordering.{int_eq}
use Rattle.std.specs.Map.{lookup}
use Rattle.ghc_term.specs.Tree.{Tree, variable, integer, node}
use Rattle.ghc_flat.specs.declared.firsts.Table.{Table}
use Rattle.ghc_flat.specs.Clause.{Clause, Program}
use Rattle.ghc_flat.specs.Numbers.{numbers_from, keys_of_program, merged}
use Rattle.ghc_flat.specs.inner.Index.{found_numbers}

-- whether both are one integer, or of one name
abbrev pub is_same_top : Tree → Tree → Bool
is_same_top (integer j) (integer k) = int_eq j k
is_same_top (node f _) (node g _) = bytes_eq f g
is_same_top _ _ = false

-- whether there is a tree that is the same integer as t, or of the same name
abbrev pub has_top : Tree → Option Tree → Bool
has_top t None = false
has_top t (Some h) = is_same_top t h

-- whether there is no tree, or it is a variable
abbrev pub is_unvalued : Option Tree → Bool
is_unvalued None = true
is_unvalued (Some (variable _)) = true
is_unvalued (Some _) = false

-- the first argument of the head of a clause, if there are both
abbrev pub first_in : Option Clause → Option Tree
first_in None = None
first_in (Some c) = slice_get c.head 0

-- the first argument of the head of clause k, if there are both
abbrev pub first_of : Program → ℕ → Option Tree
first_of P zero = None
first_of P (suc i) = first_in (slice_get P i)

-- the numbers in a table for a value
abbrev pub numbers_of_top : Table → Tree → List ℕ
numbers_of_top T (variable _) = []
numbers_of_top T (integer k) = found_numbers (lookup (int_eq k) T.integers.entries)
numbers_of_top T (node f _) = found_numbers (lookup (bytes_eq f) T.names.entries)

-- the numbers that a table of the numbers ks gives for a tree: for a variable all
abbrev pub candidates_of : Table → List ℕ → Tree → List ℕ
candidates_of T ks (variable _) = ks
candidates_of T ks t = merged (numbers_of_top T t) T.unvalued.items

-- The table is that of the clauses of these numbers.
pub record IsTableOf (P : Program) (ks : List ℕ) (T : Table) : Type 0 where
  pub valued : (t : Tree) → numbers_of_top T t ≡ filter (λ k. has_top t (first_of P k)) ks
  pub unvalued : T.unvalued.items ≡ filter (λ k. is_unvalued (first_of P k)) ks

-- Each of the tables is that of the numbers of a name and arity that begin with the number under which it stands.
abbrev pub AreTablesOf : Program → List (ℕ × Table) → Type 0
AreTablesOf P es =
    (f : List ℕ) (n j : ℕ) (ks : List ℕ) (T : Table) → numbers_from 0 (keys_of_program P) f n ≡ j ∷ ks → lookup (nat_eq j) es ≡ Some T → IsTableOf P (j ∷ ks) T
