-- A binding that closes no cycle keeps a store acyclic.
use Rattle.ghc_term.proofs.Words.{◌≡◌, true, false, cond, refl, sym, subst, inl, inr, ◌⊎◌, Option, Some, eq_by_cmp, VarName, Tree, Occurs, StoreValue, value_at, Reaches, here, through, IsAcyclic, name_cmp, with_binding}
use Rattle.std.specs.FinMap as finite
use Rattle.ghc_term.proofs.Names.{name_total}
use Rattle.ghc_term.proofs.Total.{same_name}
use Rattle.ghc_term.proofs.Chains.{reaches_on}
use Rattle.ghc_term.proofs.Merged.{by_answers}

-- what a variable is bound to after a binding: the new one, or what it was
after : (S : VarName → Option Tree) (x y : VarName) (t u : Tree) → with_binding S x t y ≡ Some u → (y ≡ x × t ≡ u) ⊎ (S y ≡ Some u)
after S x y t u e =
    elim (eq_by_cmp name_cmp y x) as (λ b. eq_by_cmp name_cmp y x ≡ b → cond b (Some t) (S y) ≡ Some u → (y ≡ x × t ≡ u) ⊎ (S y ≡ Some u)) [
      | true ↦ λ p q. inl (same_name y x p, cc)
      | false ↦ λ p q. inr q
    ] refl e

module _ (S : VarName → Option Tree) (x : VarName) (t : Tree) (open_end : ¬ Reaches S t x) where
  -- what is reached after the binding was reached before it, or through it
  reached_after : {u : Tree} {z : VarName} → Reaches (with_binding S x t) u z → Reaches S u z ⊎ (Reaches S u x × Reaches S t z)
  reached_after (here o) = inl (here o)
  reached_after {u = u} {z = z} (through {u = v} {y = y} o e r) =
      let rest = reached_after r in
      elim (after S x y t v e) [
        | inl p ↦ elim rest [
          | inl a ↦ inr (here (subst (λ w. Occurs w u) p.0 o), subst (λ w. Reaches S w z) (sym p.1) a)
          | inr a ↦ absurd (open_end (subst (λ w. Reaches S w x) (sym p.1) a.0))
        ]
        | inr p ↦ elim rest [
          | inl a ↦ inl (through o p a)
          | inr a ↦ inr (through o p a.0, a.1)
        ]
      ]

  pub binding_acyclic : IsAcyclic S → IsAcyclic (with_binding S x t)
  binding_acyclic h y u e r =
      elim (after S x y t u e) [
        | inl p ↦ elim (reached_after r) [
          | inl a ↦ open_end (subst (λ w. Reaches S w x) (sym p.1) (subst (λ w. Reaches S u w) p.0 a))
          | inr a ↦ open_end (subst (λ w. Reaches S w x) (sym p.1) a.0)
        ]
        | inr p ↦ elim (reached_after r) [
          | inl a ↦ h y u p a
          | inr a ↦ open_end (reaches_on a.1 p a.0)
        ]
      ]

-- the same of a finite store
pub bound_acyclic : (s : StoreValue) (x : VarName) (t : Tree) → ¬ Reaches (value_at s) t x → IsAcyclic (value_at s) → IsAcyclic (value_at (finite.insert s x t))
bound_acyclic s x t o h = subst IsAcyclic (by_answers (λ y. sym (finite.get-insert name_total s x t y))) (binding_acyclic (value_at s) x t o h)
