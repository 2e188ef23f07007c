-- Laws of unification.
use Rattle.std.specs.Prelude.{◌≡◌, ◌⊎◌, ◌↔◌, Option, Some, None, Result, IsTrue}
use Rattle.std.specs.FinSet as set
use Rattle.ghc_term.specs.declared.var_name.VarName.{VarName}
use Rattle.ghc_term.specs.declared.fault.Fault.{Fault}
use Rattle.ghc_term.specs.Answered.{Answered, IsExact}
use Rattle.ghc_term.specs.Tree.{Tree}
use Rattle.ghc_term.specs.Bindings.{Reaches, IsAcyclic, name_cmp}
use Rattle.ghc_term.specs.Store.{StoreValue, value_at}
use Rattle.ghc_unify.specs.Unify.{Unifies, UnifyFails, Clashes, Cycles, Ending, HasEnding, with_bindings}
use Rattle.ghc_unify.specs.declared.solve.Solved.{Solved}
use Rattle.ghc_unify.specs.Solutions.{Solves, Equates}

-- S' comes from S by taking bindings away from variables of which P does not hold.
pub record IsCutDown (P : VarName → Type 0) (S S' : VarName → Option Tree) : Type 0 where
  pub less : (x : VarName) (t : Tree) → S' x ≡ Some t → S x ≡ Some t
  pub kept : (x : VarName) → P x → S' x ≡ S x

-- A unification is the same where bindings of variables that it did not read are taken away.
abbrev pub UnificationIsLocal : Type 0
UnificationIsLocal =
    (S S' : VarName → Option Tree) (l r : Tree) (binds : StoreValue) (reads : set.FinSet name_cmp)
    → Unifies S l r binds reads → IsCutDown (λ x. IsTrue (set.contains reads x)) S S' → Unifies S' l r binds reads

-- What a unification binds was unbound, and what it reads was bound.
pub record BindsAndReads (S : VarName → Option Tree) (binds : StoreValue) (reads : set.FinSet name_cmp) : Type 0 where
  pub binds_new : (x : VarName) (t : Tree) → value_at binds x ≡ Some t → S x ≡ None
  pub reads_bound : (x : VarName) → IsTrue (set.contains reads x) → (t : Tree) × (S x ≡ Some t)

-- Each unification binds and reads so.
abbrev pub UnificationBindsAndReads : Type 0
UnificationBindsAndReads =
    (S : VarName → Option Tree) (l r : Tree) (binds : StoreValue) (reads : set.FinSet name_cmp) → Unifies S l r binds reads → BindsAndReads S binds reads

-- A unification keeps a store acyclic.
abbrev pub UnificationKeepsAcyclic : Type 0
UnificationKeepsAcyclic =
    (S : VarName → Option Tree) (l r : Tree) (binds : StoreValue) (reads : set.FinSet name_cmp)
    → IsAcyclic S → Unifies S l r binds reads → IsAcyclic (with_bindings binds S)

-- In an acyclic store a unification has one end.
abbrev pub UnificationHasOneEnding : Type 0
UnificationHasOneEnding = (S : VarName → Option Tree) (l r : Tree) (e f : Ending) → IsAcyclic S → HasEnding S l r e → HasEnding S l r f → e ≡ f

-- In an acyclic store what is answered for a unification is exact: what it binds and reads, or why it fails, unless memory was refused.
abbrev pub UnifyIsExact : Type 0
UnifyIsExact =
    (S : VarName → Option Tree) (l r : Tree) (result : Result Solved Fault) → IsAcyclic S
    → Answered (λ s. Unifies S l r s.binds s.reads) (UnifyFails S l r) result → IsExact (λ s. Unifies S l r s.binds s.reads) (UnifyFails S l r) result

-- In an acyclic finite store each unification has an end: it is solved, clashes, or comes to a cycle.
abbrev pub EachUnificationHasAnEnding : Type 0
EachUnificationHasAnEnding = (s : StoreValue) (l r : Tree) → IsAcyclic (value_at s) → (e : Ending) × HasEnding (value_at s) l r e

-- Stores that agree on all variables that the two sides reach give a unification one end.
abbrev pub UnificationLooksAtItsTerms : Type 0
UnificationLooksAtItsTerms =
    (S S' : VarName → Option Tree) (l r : Tree) (e : Ending) → HasEnding S l r e
    → ((x : VarName) → Reaches S l x ⊎ Reaches S r x → S' x ≡ S x) → HasEnding S' l r e

-- Two unifications, of which the later one read nothing that the earlier one bound, may change places.
abbrev pub UnificationsCommute : Type 0
UnificationsCommute =
    (S : VarName → Option Tree) (l r l' r' : Tree) (binds binds' : StoreValue) (reads reads' : set.FinSet name_cmp)
    → Unifies S l r binds reads → Unifies (with_bindings binds S) l' r' binds' reads'
    → ((x : VarName) → IsTrue (set.contains reads' x) → value_at binds x ≡ None) → IsAcyclic (with_bindings binds' (with_bindings binds S))
    → Unifies S l' r' binds' reads' × Unifies (with_bindings binds' S) l r binds reads
    × ((x : VarName) → with_bindings binds (with_bindings binds' S) x ≡ with_bindings binds' (with_bindings binds S) x)

-- The solutions of the store and the equation are those of the store with the bindings; a clash or a cycle has none.
pub record SolutionsAreKept (S : VarName → Option Tree) (l r : Tree) : Type 0 where
  pub solved : (binds : StoreValue) (reads : set.FinSet name_cmp) → Unifies S l r binds reads → (s : VarName → Tree) → (Solves s S × Equates s l r) ↔ Solves s (with_bindings binds S)
  pub clash : Clashes S l r → (s : VarName → Tree) → Solves s S → ¬ Equates s l r
  pub cycle : Cycles S l r → (s : VarName → Tree) → Solves s S → ¬ Equates s l r

-- Each unification keeps the solutions so.
abbrev pub UnificationKeepsSolutions : Type 0
UnificationKeepsSolutions = (S : VarName → Option Tree) (l r : Tree) → SolutionsAreKept S l r
