-- What holds of some goals, and of one more.
use Rattle.ghc_hooks.proofs.Words.{◌≡◌, ℕ, ◌+◌, ◌<◌, true, false, cond, List, length, get_or, take, refl, sym, ap, ◌∙◌, inl, inr, ◌⊎◌, ◌↔◌, Some, Ordering, eq_by_cmp, IsTotalOrder, eq_by_cmp_equiv, IsAntisymmetric, tells_apart, GoalName, In, arith}
use Rattle.std.specs.FinMap as finite
use Rattle.ghc_hooks.proofs.LookingAll.{so_far, earlier, latest}

module _ {T : Type 0} (Q : Type 0) (gs : List GoalName) (i : ℕ) (d : GoalName) (within : i < length gs) (g : GoalName) (before : T ↔ (In g (take i gs) × Q)) where
  -- with the next goal, where Q holds
  pub told_next : {T' : Type 0} → T' ↔ (T ⊎ ((g ≡ get_or gs i d) × Q)) → T' ↔ (In g (take (i + 1) gs) × Q)
  told_next step = grind (arith, so_far gs i d within g, earlier gs i d within g, latest gs i d within g)

  -- there is nothing to tell of the next goal
  pub told_skip : (g ≡ get_or gs i d → Q → ⊥) → T ↔ (In g (take (i + 1) gs) × Q)
  told_skip none = grind (arith, so_far gs i d within g, earlier gs i d within g, latest gs i d within g)

-- a key has a value put that is the only one of which Q holds
module _ {K X : Type 0} {R : K → K → Ordering} (o : IsTotalOrder R) (alike : IsAntisymmetric R) (m : finite.FinMap R X) (k : K) (v : X) (Q : K → X → Type 0) (here : Q k v)
    (one : (x : X) → Q k x → x ≡ v) (before : (x : X) → finite.get m k ≡ Some x → Q k x) (q : K) (x : X) where
  key_cases : (q ≡ k) ⊎ (eq_by_cmp R q k ≡ false)
  key_cases = elim (eq_by_cmp R q k) as (λ b. eq_by_cmp R q k ≡ b → (q ≡ k) ⊎ (b ≡ false)) [ true ↦ λ e. inl (tells_apart alike q k e) | false ↦ λ e. inr refl ] refl

  at_key : q ≡ k → finite.get (finite.insert m k v) q ≡ Some v
  at_key e = finite.get-insert o m k v q ∙ ap (λ b. cond b (Some v) (finite.get m q)) (ap (eq_by_cmp R q) (sym e) ∙ (eq_by_cmp_equiv o).refl q)

  elsewhere : eq_by_cmp R q k ≡ false → finite.get (finite.insert m k v) q ≡ finite.get m q
  elsewhere f = finite.get-insert o m k v q ∙ ap (λ b. cond b (Some v) (finite.get m q)) f

  pub put_tells : (finite.get (finite.insert m k v) q ≡ Some x) ↔ ((finite.get m q ≡ Some x) ⊎ ((q ≡ k) × Q q x))
  put_tells = grind (arith, key_cases, at_key, elsewhere, one x, before x)
