-- The numbers of the clauses for the calls of a name and arity.
use Rattle.std.specs.Prelude.{◌≡◌, ◌≢◌, ◌↔◌, ◌⊎◌, ℕ, ◌+◌, List, [], ◌∷◌, length, map, cond, ◌&&◌, nat_eq, nat_lt, bytes_eq, Bool, Option, Some, None, slice_get}
use Rattle.std.specs.List.Sorted.{IsStrictlyIncreasing}
use Rattle.ghc_term.specs.Lists.{In}
use Rattle.ghc_term.specs.Tree.{Tree, integer, node}
use Rattle.ghc_reader.specs.Written.{WrittenClause}
use Rattle.ghc_flat.specs.Clause.{Clause, Program, IsClause}

-- The numbers, in order, of the clauses of the program that have this name and arity.
pub record AreNumbersFor (P : Program) (f : List ℕ) (n : ℕ) (ks : List ℕ) : Type 0 where
  pub «exactly» : (k : ℕ) → In k ks ↔ ((c : Clause) × IsClause P k c × (c.name ≡ f) × (length c.head ≡ n))
  pub increasing : IsStrictlyIncreasing ks

-- The two are values, and not one integer, nor of one name.
abbrev pub AreOther : Tree → Tree → Type 0
AreOther (integer j) (integer k) = j ≢ k
AreOther (integer _) (node _ _) = Unit {0}
AreOther (node _ _) (integer _) = Unit {0}
AreOther (node f _) (node g _) = f ≢ g
AreOther _ _ = ⊥

-- In the first place of its head the clause has another value than e, where e is one.
abbrev pub BeginsOtherwise : Clause → Option Tree → Type 0
BeginsOtherwise c None = ⊥
BeginsOtherwise c (Some e) = (h : Tree) × (slice_get c.head 0 ≡ Some h) × AreOther h e

-- The numbers, in order, of clauses of this name and arity; those that are left out have in the first place another value than e.
pub record AreNumbersWith (P : Program) (f : List ℕ) (n : ℕ) (e : Option Tree) (ks : List ℕ) : Type 0 where
  pub sound : (k : ℕ) → In k ks → (c : Clause) × IsClause P k c × (c.name ≡ f) × (length c.head ≡ n)
  pub complete : (k : ℕ) (c : Clause) → IsClause P k c → c.name ≡ f → length c.head ≡ n → In k ks ⊎ BeginsOtherwise c e
  pub increasing : IsStrictlyIncreasing ks

-- k in front of the numbers, merged with others; the merge of the rest is given
abbrev pub merged_with : ℕ → List ℕ → (List ℕ → List ℕ) → List ℕ → List ℕ
merged_with k ks rest [] = k ∷ ks
merged_with k ks rest (j ∷ js) = cond (nat_lt j k) (j ∷ merged_with k ks rest js) (k ∷ rest (j ∷ js))

-- the numbers of two lists that go up, in one that goes up
abbrev pub merged : List ℕ → List ℕ → List ℕ
merged [] js = js
merged (k ∷ ks) js = merged_with k ks (merged ks) js

-- the names and arities of the clauses, in order
abbrev pub keys_of_program : Program → List (List ℕ × ℕ)
keys_of_program P = map (λ c. (c.name, length c.head)) P

-- the names and arities of the written clauses, in order
abbrev pub keys_of_written : List WrittenClause → List (List ℕ × ℕ)
keys_of_written ws = map (λ w. (w.name, length w.head)) ws

-- whether the two are of one name and arity
abbrev pub is_same_key : List ℕ → ℕ → List ℕ × ℕ → Bool
is_same_key f n p = bytes_eq p.0 f && nat_eq p.1 n

-- the numbers, from k+1 on, of the keys that are this name and arity
abbrev pub numbers_from : ℕ → List (List ℕ × ℕ) → List ℕ → ℕ → List ℕ
numbers_from k [] f n = []
numbers_from k (p ∷ ps) f n = cond (is_same_key f n p) ((k + 1) ∷ numbers_from (k + 1) ps f n) (numbers_from (k + 1) ps f n)
