-- Programs: tests, clauses and queries.
use Rattle.std.specs.Prelude.{◌≡◌, ℕ, ◌+◌, List, length, Some, slice_get}
use Rattle.ghc_term.specs.Tree.{Tree}
use Rattle.ghc_term.specs.Goal.{Goal}
use Rattle.ghc_flat.specs.declared.test.Test.{Test}

-- A clause is `name(head) :- tests | body.`, and `_0_i` is its i-th variable by first occurrence. (`true` is no goal of a body.)
pub record Clause : Type 0 where
  pub name : List ℕ
  pub head : List Tree
  pub tests : List Test
  pub body : List Goal

-- A program is its clauses in order.
abbrev pub Program : Type 0
Program = List Clause

-- Clause k of the program is c; the first is clause 1.
abbrev pub IsClause : Program → ℕ → Clause → Type 0
IsClause P k c = (i : ℕ) × (k ≡ i + 1) × (slice_get P i ≡ Some c)

-- The clause is for calls of the name f with the arguments ts.
abbrev pub IsFor : List ℕ → List Tree → Clause → Type 0
IsFor f ts c = (c.name ≡ f) × (length c.head ≡ length ts)

-- A query is its goals in order, and `_0_i` is its i-th variable by first occurrence.
abbrev pub Query : Type 0
Query = List Goal
