-- What stands in a state after a step.
use Rattle.ghc_records.proofs.Words.{◌≡◌, ◌≢◌, ℕ, suc, ◌+◌, ◌⊎◌, true, false, cond, List, [], ◌∷◌, refl, sym, ap, ◌∙◌, subst, inl, inr, arith, slice_get, Some, None, eq_by_cmp, is_eq, tied_itself, GoalName, Goal, In, in_at, goal_cmp, Goals, with_makes, goal_total, same_goal}
use Rattle.std.specs.FinMap as finite
pub use Rattle.ghc_term.proofs.WithBinds.{bound_at}

-- a goal of the state after a step was made by it at a place, or was there
abbrev pub MadeAt : ℕ → ℕ → List Goal → GoalName → Goal → Type 0
MadeAt n i gs h b = (j : ℕ) × (slice_get gs j ≡ Some b) × (h.step ≡ n) × (h.place ≡ i + j)

pub made_at : (n i : ℕ) (gs : List Goal) (m : Goals) (h : GoalName) (b : Goal) → finite.get (with_makes n i gs m) h ≡ Some b → MadeAt n i gs h b ⊎ (finite.get m h ≡ Some b)
made_at n i [] m h b e = inr e
made_at n i (g ∷ gs) m h b e =
    elim (eq_by_cmp goal_cmp h (record { step = n; place = i })) as (λ c. eq_by_cmp goal_cmp h (record { step = n; place = i }) ≡ c → cond c (Some g) (finite.get (with_makes n (i + 1) gs m) h) ≡ Some b → MadeAt n i (g ∷ gs) h b ⊎ (finite.get m h ≡ Some b)) [
      | true ↦ λ p q.
          let same = same_goal h (record { step = n; place = i }) p in
          let place : h.place ≡ i = ap (λ (k : GoalName). k.place) same in
          inl (0, q, ap (λ (k : GoalName). k.step) same, omega arith)
      | false ↦ λ p q. elim (made_at n (i + 1) gs m h b q) [ inl a ↦ inl (suc a.0, a.1, a.2, omega (arith, a.3)) | inr a ↦ inr a ]
    ] refl (sym (finite.get-insert goal_total (with_makes n (i + 1) gs m) (record { step = n; place = i }) g h) ∙ e)

-- .. under another name than the one consumed
pub made_or_old : (n i : ℕ) (gs : List Goal) (m : Goals) (h : GoalName) (b : Goal) → finite.get (with_makes n i gs m) h ≡ Some b → ((h.step ≡ n) × In b gs) ⊎ (finite.get m h ≡ Some b)
made_or_old n i gs m h b e = elim (made_at n i gs m h b e) [ inl a ↦ inl (a.2, in_at gs a.0 b a.1) | inr old ↦ inr old ]

pub tied : (h g : GoalName) → h ≡ g → eq_by_cmp goal_cmp h g ≡ true
tied h g same = subst (λ z. eq_by_cmp goal_cmp h z ≡ true) same (ap is_eq (tied_itself goal_total h))

-- what is there without a goal was there, under another name
pub old_apart : (m : Goals) (g h : GoalName) (b : Goal) → finite.get (finite.remove m g) h ≡ Some b → (finite.get m h ≡ Some b) × (h ≢ g)
old_apart m g h b e =
    elim (eq_by_cmp goal_cmp h g) as (λ c. eq_by_cmp goal_cmp h g ≡ c → cond c None (finite.get m h) ≡ Some b → (finite.get m h ≡ Some b) × (h ≢ g)) [
      | true ↦ λ p q. cc
      | false ↦ λ p q. (q, λ same. let clash : true ≡ false = sym (tied h g same) ∙ p in cc)
    ] refl (sym (finite.get-remove goal_total m g h) ∙ e)
