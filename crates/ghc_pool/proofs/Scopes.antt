-- Which goals are in a scope.
use Rattle.ghc_pool.proofs.Words.{◌≡◌, ℕ, ◌<◌, ◌≤◌, Bool, true, refl, sym, ◌∙◌, inl, inr, arith, ◌↔◌, IsTrue, BTreeSet, contains, btree_set_contains_iff, GoalName, in_contains, contains_in, goal_cmp, goal_total, goal_antisymmetric, Of, IsInScope}

module _ (names : BTreeSet GoalName) (since : ℕ) (goal : GoalName) where
  -- a goal that a later step made
  pub late_in : since ≤ goal.step → IsTrue true ↔ IsInScope (Of names since) goal
  late_in late = (λ yes. inr late, λ h. refl)

  -- another goal is in the scope by its name
  pub named_in : goal.step < since → (t : Bool) → t ≡ contains goal_cmp names goal → IsTrue t ↔ IsInScope (Of names since) goal
  named_in early t is =
      let by_keys = btree_set_contains_iff goal_total goal_antisymmetric names goal in (
        λ yes. inl (contains_in names.keys goal (by_keys.0 (sym is ∙ yes))),
        λ h. elim h [ inl i ↦ is ∙ by_keys.1 (in_contains names.keys goal i) | inr late ↦ absurd (omega (arith, early, late)) ],
      )
