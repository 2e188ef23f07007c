-- Whether a redo is refused before it fires, and what it counts.
use Rattle.ghc_core.proofs.Words.{◌≡◌, ℕ, refl, ap, ◌∙◌, inl, inr, Some, Fault, Meter, fired, Record, World, RedoFails, Decided, by_option, FiresUnless, IsNotRedoneAnyway}
use Rattle.std.specs.FinMap as finite
use Rattle.ghc_core.proofs.Naming.{known_decided}
use Rattle.ghc_core.proofs.Refusing.{GoalIsThere, not_shelved, has_goal, no_goal, no_variable, has_not, value_once}
use Rattle.ghc_core.proofs.Redone.{said_not_shelved, said_no_goal, known_not_refused}

-- a redo fires where its step is on the shelf, its goal is there, and what it names is known
pub redo_counted : (w : World) (n : ℕ) (m k : Meter) → (RedoFails w n Fault.NotShelved → k ≡ m) → (RedoFails w n Fault.NoGoal → k ≡ m) → (RedoFails w n Fault.NoVariable → k ≡ m)
    → ((¬ RedoFails w n Fault.NotShelved) → (¬ RedoFails w n Fault.NoGoal) → (¬ RedoFails w n Fault.NoVariable) → k ≡ fired m) → FiresUnless (IsNotRedoneAnyway w n) m k
redo_counted w n m k off gone unknown all = (
  λ is. elim is.1 [ inl (e, q) ↦ off q | inr (inl (e, q)) ↦ gone q | inr (inr (e, q)) ↦ unknown q ],
  λ none. all (λ q. none (Fault.NotShelved, inl (refl, q))) (λ q. none (Fault.NoGoal, inr (inl (refl, q)))) (λ q. none (Fault.NoVariable, inr (inr (refl, q)))),
)

module _ (w : World) (n : ℕ) where
  of_known : (r : Record) → finite.get w.shelf n ≡ Some r → GoalIsThere w r → Decided (IsNotRedoneAnyway w n)
  of_known r on there = elim (known_decided w.opening.query w.kept r) [
    | inr u ↦ inl (Fault.NoVariable, inr (inr (refl, no_variable r on there u)))
    | inl known ↦ inr (λ is. elim is.1 [
      | inl (e, q) ↦ has_not on (said_not_shelved q refl)
      | inr (inl (e, q)) ↦ has_goal w n r on there (said_no_goal q refl)
      | inr (inr (e, q)) ↦ known_not_refused r on known q
    ])
  ]

  of_record : (r : Record) → finite.get w.shelf n ≡ Some r → Decided (IsNotRedoneAnyway w n)
  of_record r on = by_option r.goal (λ none. of_known r on (λ g some lacking. has_not some none)) (λ g named. by_option (finite.get w.state.goals g)
      (λ lacking. inl (Fault.NoGoal, inr (inl (refl, no_goal r g on named lacking))))
      (λ b at. of_known r on (λ h some lacking. has_not at (ap (finite.get w.state.goals) (value_once named some) ∙ lacking))))

  -- a redo is refused whatever memory is left, or it fires
  pub redo_decided : Decided (IsNotRedoneAnyway w n)
  redo_decided = by_option (finite.get w.shelf n) (λ none. inl (Fault.NotShelved, inl (refl, not_shelved none))) of_record
