-- Numbers in a list or in a table of keys.
use Rattle.ghc_records.proofs.Words.{◌≡◌, ◌≢◌, ℕ, Bool, true, false, cond, ◌||◌, List, [], ◌∷◌, refl, sym, ap, ◌∙◌, subst, inl, inr, ◌⊎◌, ◌<◌, ◌+◌, nat_eq, ◌++◌, length, take, get_or, ◌↔◌, Result, Ok, Err, IsOk, OnErr, list_any, eqb-true, eq-eqb, ne_eqb, nat_tests, or_cases, or_right, false_from_ne_true, arith, take_more, insert_key, In, in_left, in_more, in_right, nat_decided, AreDistinct}

-- numbers are one or they are not
pub one_or_not : (n k : ℕ) → (n ≡ k) ⊎ (n ≢ k)
one_or_not n k = nat_decided n k

turned : (k n : ℕ) → nat_eq k n ≡ nat_eq n k
turned k n = grind (arith, nat_tests)

-- a test that finds a number, and the number in the list
pub number_any : (n : ℕ) (ks : List ℕ) → list_any (nat_eq n) ks ≡ true → In n ks
number_any n [] e = cc
number_any n (k ∷ ks) e = elim (or_cases (nat_eq n k) (list_any (nat_eq n) ks) e) [ inl p ↦ inl (eqb-true n k p) | inr q ↦ inr (number_any n ks q) ]

pub any_number : (n : ℕ) (ks : List ℕ) → In n ks → list_any (nat_eq n) ks ≡ true
any_number n [] i = absurd i
any_number n (k ∷ ks) (inl e) = ap (λ b. b || list_any (nat_eq n) ks) (eq-eqb n k e)
any_number n (k ∷ ks) (inr i) = or_right (nat_eq n k) (list_any (nat_eq n) ks) (any_number n ks i)

-- a table with one number more or less
module _ (ks new : List ℕ) (k : ℕ) where
  same_case : (b c : Bool) (n : ℕ) → n ≡ k → list_any (nat_eq n) new ≡ cond (nat_eq k n) b c → list_any (nat_eq n) new ≡ b
  same_case b c n e h = h ∙ ap (λ t. cond t b c) (eq-eqb k n (sym e))

  other_case : (b : Bool) (n : ℕ) → n ≢ k → list_any (nat_eq n) new ≡ cond (nat_eq k n) b (list_any (nat_eq n) ks) → list_any (nat_eq n) new ≡ list_any (nat_eq n) ks
  other_case b n other h = h ∙ ap (λ t. cond t b (list_any (nat_eq n) ks)) (ne_eqb k n (λ e. other (sym e)))

  pub number_put : ((n : ℕ) → list_any (nat_eq n) new ≡ cond (nat_eq k n) true (list_any (nat_eq n) ks)) → (n : ℕ) → In n new ↔ (In n ks ⊎ (n ≡ k))
  number_put h n = elim (one_or_not n k) [
    | inl e ↦ (λ i. inr e, λ d. number_any n new (same_case true (list_any (nat_eq n) ks) n e (h n)))
    | inr other ↦
        let is = other_case true n other (h n) in (
          λ i. inl (number_any n ks (sym is ∙ any_number n new i)),
          λ d. elim d [ inl i ↦ number_any n new (is ∙ any_number n ks i) | inr e ↦ absurd (other e) ],
        )
  ]

  pub number_taken : ((n : ℕ) → list_any (nat_eq n) new ≡ cond (nat_eq k n) false (list_any (nat_eq n) ks)) → (n : ℕ) → In n new ↔ (In n ks × (n ≢ k))
  number_taken h n = elim (one_or_not n k) [
    | inl e ↦ (
      λ i. let clash : true ≡ false = sym (any_number n new i) ∙ same_case false (list_any (nat_eq n) ks) n e (h n) in cc,
      λ d. absurd (d.1 e),
    )
    | inr other ↦
        let is = other_case false n other (h n) in (
          λ i. (number_any n ks (sym is ∙ any_number n new i), other),
          λ d. number_any n new (is ∙ any_number n ks d.0),
        )
  ]

-- what fails only where a test fails succeeds where it does not
pub succeeds : {A E : Type 0} (r : Result A E) (b : Bool) → OnErr r (b ≡ false) → b ≡ true → IsOk r
succeeds (Ok a) b h e = refl
succeeds (Err x) b h e = let clash : true ≡ false = sym e ∙ h in cc

-- a number that is not there goes to the end of the keys
pub not_any : (ks : List ℕ) (n : ℕ) → ¬ In n ks → list_any (nat_eq n) ks ≡ false
not_any ks n not_in = false_from_ne_true (list_any (nat_eq n) ks) (λ e. not_in (number_any n ks e))

pub pushed : (ks : List ℕ) (n : ℕ) → ¬ In n ks → insert_key nat_eq ks n ≡ ks ++ n ∷ []
pushed ks n not_in = ap (λ b. cond b ks (ks ++ n ∷ [])) (not_any ks n not_in)

-- the test the other way round
pub any_turned : (n : ℕ) (ks : List ℕ) → list_any (λ y. nat_eq y n) ks ≡ list_any (nat_eq n) ks
any_turned n [] = refl
any_turned n (k ∷ ks) = ap (λ b. b || list_any (λ y. nat_eq y n) ks) (turned k n) ∙ ap (λ b. nat_eq n k || b) (any_turned n ks)

pub found : (ks : List ℕ) (n : ℕ) → list_any (λ y. nat_eq y n) ks ≡ true → In n ks
found ks n e = number_any n ks (sym (any_turned n ks) ∙ e)

-- one more at the end of a list without it
pub in_pushed : (ks : List ℕ) (k n : ℕ) → In n (ks ++ k ∷ []) ↔ (In n ks ⊎ (n ≡ k))
in_pushed ks k n = (in_more ks k n, λ d. elim d [ inl i ↦ in_left ks (k ∷ []) n i | inr e ↦ in_right ks (k ∷ []) n (inl e) ])

pub distinct_pushed : (ks : List ℕ) (k : ℕ) → AreDistinct ks → ¬ In k ks → AreDistinct (ks ++ k ∷ [])
distinct_pushed [] k d n = ((λ never. never), tt)
distinct_pushed (x ∷ ks) k d n = (
  (λ i. elim ((in_pushed ks k x).0 i) [ inl j ↦ d.0 j | inr e ↦ n (inl (sym e)) ]),
  distinct_pushed ks k d.1 (λ i. n (inr i)),
)

-- the numbers of a list so far, but for one, and the next of them
module _ (xs : List ℕ) (i k : ℕ) (within : i < length xs) (held : List ℕ) (so_far : (n : ℕ) → In n held ↔ (In n (take i xs) × (n ≢ k))) where
  next_is : (n : ℕ) → In n (take (i + 1) xs) ↔ (In n (take i xs) ⊎ (n ≡ get_or xs i 0))
  next_is n = subst (λ l. In n l ↔ (In n (take i xs) ⊎ (n ≡ get_or xs i 0))) (sym (take_more xs i 0 within)) (in_pushed (take i xs) (get_or xs i 0) n)

  pub next_is_put : (new : List ℕ) → get_or xs i 0 ≢ k → ((n : ℕ) → In n new ↔ (In n held ⊎ (n ≡ get_or xs i 0))) → (n : ℕ) → In n new ↔ (In n (take (i + 1) xs) × (n ≢ k))
  next_is_put new other put n = (
    λ j. elim ((put n).0 j) [
      | inl h ↦ let c = (so_far n).0 h in ((next_is n).1 (inl c.0), c.1)
      | inr e ↦ ((next_is n).1 (inr e), λ f. other (sym e ∙ f))
    ],
    λ c. elim ((next_is n).0 c.0) [
      | inl j ↦ (put n).1 (inl ((so_far n).1 (j, c.1)))
      | inr e ↦ (put n).1 (inr e)
    ],
  )

  pub next_is_left : get_or xs i 0 ≡ k → (n : ℕ) → In n held ↔ (In n (take (i + 1) xs) × (n ≢ k))
  next_is_left same n = (
    λ h. let c = (so_far n).0 h in ((next_is n).1 (inl c.0), c.1),
    λ c. elim ((next_is n).0 c.0) [
      | inl j ↦ (so_far n).1 (j, c.1)
      | inr e ↦ absurd (c.1 (e ∙ same))
    ],
  )

-- so does what has room, or the number already
pub succeeds_with : {A E : Type 0} {room : ℕ} (r : Result A E) (ks held : List ℕ) (n : ℕ) → ks ≡ held → (0 < room → IsOk r) → OnErr r (list_any (nat_eq n) ks ≡ false) → (0 < room) ⊎ In n held → IsOk r
succeeds_with r ks held n here by_room absent (inl room) = by_room room
succeeds_with r ks held n here by_room absent (inr i) = succeeds r (list_any (nat_eq n) ks) absent (any_number n ks (subst (In n) (sym here) i))
