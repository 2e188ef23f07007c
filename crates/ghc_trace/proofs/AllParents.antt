-- Each variable that is bound in the store was bound by a kept step.
use Rattle.ghc_trace.proofs.Words.{◌≡◌, ◌⊎◌, ◌↔◌, ℕ, List, [], ◌∷◌, refl, sym, ◌∙◌, subst, inl, inr, Some, None, In, Record, numbers, number_in, Binds, StepBinds, World, IsReplay, VarName, Tree, value_at, some_decided, true_decided}
use Rattle.std.specs.FinMap as finite
use Rattle.ghc_depend.specs.Depend.{IsKeptAs}
use Rattle.ghc_trace.proofs.BoundChain.{unbound}

-- a number is that of a record
pub number_kept : (rs : List Record) (n : ℕ) → In n (numbers rs) → (r : Record) × IsKeptAs rs n r
number_kept [] n i = absurd i
number_kept (r ∷ rs) n (inl e) = (r, (inl refl, sym e))
number_kept (r ∷ rs) n (inr i) = let q = number_kept rs n i in (q.0, (inr q.1.0, q.1.1))

module _ (w : World) (replay : IsReplay w w.kept w.state) where
  pub bound_step : (v : VarName) (u : Tree) → value_at w.state.store v ≡ Some u → (r : Record) × In r w.kept × Binds r v
  bound_step v u is = elim (some_decided w.kept (λ r. Binds r v) (λ r i. true_decided (finite.contains_key r.effect.binds v))) [
    | inl found ↦ found
    | inr none ↦ let clash : None ≡ Some u = sym (unbound w v replay (λ r i b. none (r, i, b))) ∙ is in absurd (cc)
  ]

  -- where listed are just the variables that steps of these numbers bound, and the numbers are those of all kept steps, each bound one is listed
  pub bound_listed : (kept : List Record) (ns : List ℕ) (among : List VarName) → kept ≡ w.kept → ns ≡ numbers kept → ((x : VarName) → In x among ↔ ((n : ℕ) × In n ns × StepBinds kept n x))
      → (v : VarName) (u : Tree) → value_at w.state.store v ≡ Some u → In v among
  bound_listed kept ns among same all are v u is =
      let r = bound_step v u is in
      let i : In r.0 kept = subst (In r.0) (sym same) r.1 in
      (are v).1 (r.0.number, subst (In r.0.number) (sym all) (number_in kept r.0 i), (r.0, i, refl, r.2))
