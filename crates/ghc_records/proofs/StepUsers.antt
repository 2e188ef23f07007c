-- Users by step, where what stands under one step is changed.
use Rattle.ghc_records.proofs.Words.{◌≡◌, ◌≢◌, ◌<◌, ◌≤◌, ℕ, cond, List, refl, sym, ap, ◌∙◌, subst, inl, inr, ◌⊎◌, nat_eq, arith, ◌↔◌, Option, Some, None, lookup, In, Table, UsersByStep, numbers_in, room_in, users_at, IsUser, CanTake}
use Rattle.std.specs.FinMap as finite
use Rattle.ghc_records.proofs.NumberSets.{one_or_not}
use Rattle.ghc_records.proofs.SlotPlaces.{at_key, at_other, place_is}

-- under the step x stood o, and stands p from now on; under the others stands what stood there
abbrev pub Differs : UsersByStep → UsersByStep → ℕ → Option (Table (List ℕ)) → Option (Table (List ℕ)) → Type 0
Differs old new x o p = (finite.get old x ≡ o) × (finite.get new x ≡ p) × ((y : ℕ) → y ≢ x → finite.get new y ≡ finite.get old y)

module _ (old new : UsersByStep) (x : ℕ) (o p : Option (Table (List ℕ))) (d : Differs old new x o p) where
  -- what holds of what stands under x before and after holds under each step, where it holds of what is the same
  by_step : (P : ℕ → Option (Table (List ℕ)) → Option (Table (List ℕ)) → Type 0) → P x o p → ((y : ℕ) (q : Option (Table (List ℕ))) → y ≢ x → P y q q) → (y : ℕ) → P y (finite.get old y) (finite.get new y)
  by_step P here other y = elim (one_or_not y x) [
    | inl e ↦ subst (λ z. P z (finite.get old z) (finite.get new z)) (sym e) (subst (λ q. P x q (finite.get new x)) (sym d.0) (subst (λ q. P x o q) (sym d.1) here))
    | inr n ↦ subst (λ q. P y (finite.get old y) q) (sym (d.2 y n)) (other y (finite.get old y) n)
  ]

  pub users_kept : numbers_in p ≡ numbers_in o → (y : ℕ) → users_at new y ≡ users_at old y
  users_kept h = by_step (λ y a b. numbers_in b ≡ numbers_in a) h (λ y q n. refl)

  pub can_kept : numbers_in p ≡ numbers_in o → room_in o ≤ room_in p → (y u : ℕ) → CanTake old y u → CanTake new y u
  can_kept h k y u = by_step (λ y a b. (0 < room_in a) ⊎ In u (numbers_in a) → (0 < room_in b) ⊎ In u (numbers_in b))
      (λ c. elim c [ inl room ↦ inl (omega (arith, k, room)) | inr i ↦ inr (subst (In u) (sym h) i) ])
      (λ y q n c. c) y

  pub user_put : (u : ℕ) → ((k : ℕ) → In k (numbers_in p) ↔ (In k (numbers_in o) ⊎ (k ≡ u))) → (y k : ℕ) → IsUser new y k ↔ (IsUser old y k ⊎ ((y ≡ x) × (k ≡ u)))
  user_put u h y k = by_step (λ y a b. In k (numbers_in b) ↔ (In k (numbers_in a) ⊎ ((y ≡ x) × (k ≡ u))))
      (λ i. elim ((h k).0 i) [ inl j ↦ inl j | inr e ↦ inr (refl, e) ], λ c. (h k).1 (elim c [ inl j ↦ inl j | inr e ↦ inr e.1 ]))
      (λ y q n. (λ i. inl i, λ c. elim c [ inl i ↦ i | inr e ↦ absurd (n e.0) ])) y

  pub user_taken : (u : ℕ) → ((k : ℕ) → In k (numbers_in p) ↔ (In k (numbers_in o) × (k ≢ u))) → (y k : ℕ) → IsUser new y k ↔ (IsUser old y k × ¬ ((y ≡ x) × (k ≡ u)))
  user_taken u h y k = by_step (λ y a b. In k (numbers_in b) ↔ (In k (numbers_in a) × ¬ ((y ≡ x) × (k ≡ u))))
      (λ i. (((h k).0 i).0, λ e. ((h k).0 i).1 e.1), λ c. (h k).1 (c.0, λ e. c.1 (refl, e)))
      (λ y q n. (λ i. (i, λ e. n e.0), λ c. c.0)) y

  pub users_forgotten : ((k : ℕ) → ¬ In k (numbers_in p)) → (y k : ℕ) → IsUser new y k ↔ (IsUser old y k × (y ≢ x))
  users_forgotten h y k = by_step (λ y a b. In k (numbers_in b) ↔ (In k (numbers_in a) × (y ≢ x))) (λ i. absurd (h k i), λ c. absurd (c.1 refl)) (λ y q n. (λ i. (i, n), λ c. c.0)) y

  pub can_still : (u : ℕ) → In u (numbers_in p) → (y : ℕ) → CanTake old y u → CanTake new y u
  can_still u there = by_step (λ y a b. (0 < room_in a) ⊎ In u (numbers_in a) → (0 < room_in b) ⊎ In u (numbers_in b)) (λ c. inr there) (λ y q n c. c)

  pub can_take : 0 < room_in p → (u : ℕ) → CanTake new x u
  can_take h u = inl (subst (λ q. 0 < room_in q) (sym d.1) h)

-- where nothing stands under a step, there is no room
pub can_not : (m : UsersByStep) (x u : ℕ) → finite.get m x ≡ None → ¬ CanTake m x u
can_not m x u e can = elim (subst (λ o. (0 < room_in o) ⊎ In u (numbers_in o)) e can) [ inl room ↦ omega (arith, room) | inr i ↦ i ]

-- the tables of entries
pub at_first : (es : List (ℕ × Table (List ℕ))) (m : UsersByStep) (x : ℕ) → finite.from_entries es ≡ m → (o : Option (Table (List ℕ))) → o ≡ lookup (nat_eq x) es → finite.get m x ≡ o
at_first es m x is o e = sym (e ∙ place_is es x ∙ ap (λ z. finite.get z x) is)

module _ (es new : List (ℕ × Table (List ℕ))) (m : UsersByStep) (x : ℕ) (is : finite.from_entries es ≡ m) where
  pub written : (o : Option (Table (List ℕ))) (w : Table (List ℕ)) → o ≡ lookup (nat_eq x) es → ((q : ℕ) → lookup (nat_eq q) new ≡ cond (nat_eq x q) (Some w) (lookup (nat_eq q) es))
      → Differs m (finite.from_entries new) x o (Some w)
  written o w had h = (at_first es m x is o had, at_key es new x (Some w) h x refl, λ y n. at_other es new x (Some w) h y n ∙ ap (λ z. finite.get z y) is)

  pub gone : ((q : ℕ) → lookup (nat_eq q) new ≡ cond (nat_eq x q) None (lookup (nat_eq q) es)) → Differs m (finite.from_entries new) x (finite.get m x) None
  gone h = (refl, at_key es new x None h x refl, λ y n. at_other es new x None h y n ∙ ap (λ z. finite.get z y) is)

  pub unchanged : None ≡ lookup (nat_eq x) es → new ≡ es → Differs m (finite.from_entries new) x None None
  unchanged none same =
      let now : finite.from_entries new ≡ m = ap (λ l. finite.from_entries l) same ∙ is in
      (at_first es m x is None none, ap (λ z. finite.get z x) now ∙ at_first es m x is None none, λ y n. ap (λ z. finite.get z y) now)
