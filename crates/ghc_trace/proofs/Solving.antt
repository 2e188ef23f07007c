-- Each acyclic store has a solution, and a unification that has failed fails in each store with more bindings.
use Rattle.std.proofs.Common.{◌≡◌, subst, inl, inr, ◌⊎◌, Option, Some}
use Rattle.ghc_term.specs.declared.var_name.VarName.{VarName}
use Rattle.ghc_term.specs.Bindings.{IsAcyclic, name_cmp}
use Rattle.ghc_term.specs.Store.{StoreValue, value_at}
use Rattle.ghc_term.specs.Tree.{Tree, variable, integer, node, Trees, none, more}
use Rattle.ghc_term.proofs.Merged.{merged, merged_is, merged_acyclic}
use Rattle.ghc_unify.specs.Solutions.{replace, replace_all, Solves}
use Rattle.ghc_unify.specs.Unify.{Unifies, Clashes, Cycles}
use Rattle.std.specs.FinSet as set
use Rattle.ghc_term.specs.Resolved.{IsResolution, Resolves, an_integer, bound, a_node, ResolvesAll, no_more, one_more}
use Rattle.ghc_term.proofs.Resolving.{resolves_once, resolution}
use Rattle.ghc_unify.proofs.LawProofs.{keeps_acyclic}
use Rattle.ghc_unify.proofs.SolutionLemmas.{solutions}

-- what S binds, S' binds to the same
abbrev pub Has : (VarName → Option Tree) → (VarName → Option Tree) → Type 0
Has S' S = (x : VarName) (t : Tree) → S x ≡ Some t → S' x ≡ Some t

module _ (S : VarName → Option Tree) (r : Tree → Tree) (each : IsResolution S r) where
  -- what each variable resolves to
  abbrev pub value : VarName → Tree
  value x = r (variable x)

  mutual
    -- a tree resolves to what stands there with the values of its variables
    replaced : (t : Tree) → Resolves S t (replace value t)
    replaced (variable x) = each (variable x)
    replaced (integer k) = an_integer
    replaced (node f ts) = a_node (all_replaced ts)

    all_replaced : (ts : Trees) → ResolvesAll S ts (replace_all value ts)
    all_replaced none = no_more
    all_replaced (more t ts) = one_more (replaced t) (all_replaced ts)

  solving : Solves value S
  solving x t e = resolves_once (each (variable x)) (bound e (replaced t))

-- each acyclic store has a solution
pub solution : (s : StoreValue) → IsAcyclic (value_at s) → (v : VarName → Tree) × Solves v (value_at s)
solution s acyclic = let r = resolution s acyclic in (value (value_at s) r.0 r.1, solving (value_at s) r.0 r.1)

-- a clash or a cycle stays one
pub fails_on : (S : VarName → Option Tree) (s : StoreValue) (l r : Tree) (binds : StoreValue) (reads : set.FinSet name_cmp) → Has (value_at s) S → IsAcyclic (value_at s)
    → Clashes S l r ⊎ Cycles S l r → ¬ Unifies (value_at s) l r binds reads
fails_on S s l r binds reads has acyclic failed u =
    let after = merged_acyclic binds s (keeps_acyclic (value_at s) l r binds reads acyclic u) in
    let found = solution (merged binds s) after in
    let both = ((solutions (value_at s) l r).solved binds reads u found.0).1 (subst (Solves found.0) (merged_is binds s) found.1) in
    let before : Solves found.0 S = λ x t e. both.0 x t (has x t e) in
    elim failed [
      | inl c ↦ (solutions S l r).clash c found.0 before both.1
      | inr c ↦ (solutions S l r).cycle c found.0 before both.1
    ]
