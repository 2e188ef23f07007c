-- Numbers in ascending order, one more or one less.
use Rattle.ghc_records.proofs.Words.{◌≡◌, ◌≢◌, ℕ, zero, suc, ◌+◌, ◌-◌, ◌<◌, ◌≤◌, List, [], ◌∷◌, ◌++◌, length, take, drop, get_or, refl, sym, ◌∙◌, subst, inl, inr, ◌⊎◌, arith, ltb, ◌↔◌, IsTrue, Some, slice_get, Result, Ok, Err, insert, remove, IsBinarySearchResult, searched, take-append-drop, get_or_default, get_or_from_slice_get, slice_get_within, ltb-true, lt-ltb, In, in_contains, in_left, in_right, in_either, in_get, splits_at, AreDistinct, IsRising}
use Rattle.std.proofs.Common.{nat_cmp}

-- numbers rise where those of a front do, those of a back do, and each of the front is below each of the back
pub joined : (xs ys : List ℕ) → IsRising xs → IsRising ys → ((m n : ℕ) → In m xs → In n ys → m < n) → IsRising (xs ++ ys)
joined [] ys a b h = b
joined (x ∷ xs) ys a b h = (
  (λ n i. elim (in_either xs ys n i) [ inl j ↦ a.0 n j | inr j ↦ h x n (inl refl) j ]),
  joined xs ys a.1 b (λ m n i j. h m n (inr i) j),
)

pub parted : (xs ys : List ℕ) → IsRising (xs ++ ys) → IsRising xs × IsRising ys × ((m n : ℕ) → In m xs → In n ys → m < n)
parted [] ys a = (tt, a, λ m n i j. absurd i)
parted (x ∷ xs) ys a =
    let p = parted xs ys a.1 in (
      ((λ n i. a.0 n (in_left xs ys n i)), p.0),
      p.1,
      λ m n i j. elim i [ inl e ↦ subst (λ k. k < n) (sym e) (a.0 n (in_right xs ys n j)) | inr k ↦ p.2 m n k j ],
    )

-- numbers that rise are different
pub rising_distinct : (xs : List ℕ) → IsRising xs → AreDistinct xs
rising_distinct [] a = tt
rising_distinct (x ∷ xs) a = ((λ i. let b = a.0 x i in omega (arith, b)), rising_distinct xs a.1)

-- a number after a place is at least that of the place
pub rises : (xs : List ℕ) → IsRising xs → (i j : ℕ) → i ≤ j → j < length xs → get_or xs i 0 ≤ get_or xs j 0
rises [] a i j le l = absurd (omega (arith, l))
rises (x ∷ xs) a zero zero le l = omega arith
rises (x ∷ xs) a zero (suc j) le l = let b = a.0 (get_or xs j 0) (in_get xs j 0 (omega (arith, l))) in omega (arith, b)
rises (x ∷ xs) a (suc i) zero le l = absurd (omega (arith, le))
rises (x ∷ xs) a (suc i) (suc j) le l = rises xs a.1 i j (omega (arith, le)) (omega (arith, l))

-- no number is above the last
pub most_is_last : (xs : List ℕ) (last : ℕ) → IsRising xs → slice_get xs (length xs - 1) ≡ Some last → (n : ℕ) → In n xs → n ≤ last
most_is_last xs last a e n i =
    let w = in_contains xs n i in
    let here : get_or xs w.0 0 ≡ n = get_or_default xs w.0 0 n w.1 ∙ w.2 in
    let there : get_or xs (length xs - 1) 0 ≡ last = get_or_from_slice_get xs (length xs - 1) last 0 e in
    let le = rises xs a w.0 (length xs - 1) (omega (arith, w.1)) (omega (arith, w.1)) in
    omega (arith, here, there, le)

-- a number is above all where it is above the last
pub above_last : (xs : List ℕ) (last x : ℕ) → IsRising xs → slice_get xs (length xs - 1) ≡ Some last → IsTrue (ltb last x) ↔ ((n : ℕ) → In n xs → n < x)
above_last xs last x a e =
    let there : get_or xs (length xs - 1) 0 ≡ last = get_or_from_slice_get xs (length xs - 1) last 0 e in (
      λ less n i. let le = most_is_last xs last a e n i in let lt = ltb-true last x less in omega (arith, le, lt),
      λ h. lt-ltb last x (subst (λ k. k < x) there (h (get_or xs (length xs - 1) 0) (in_get xs (length xs - 1) 0 (slice_get_within xs (length xs - 1) last e)))),
    )

-- a number above all others comes after them
pub rising_pushed : (xs : List ℕ) (x : ℕ) → IsRising xs → ((n : ℕ) → In n xs → n < x) → IsRising (xs ++ x ∷ [])
rising_pushed xs x a h = joined xs (x ∷ []) a ((λ n never. absurd never), tt) (λ m n i j. elim j [ inl e ↦ subst (λ z. m < z) (sym e) (h m i) | inr never ↦ absurd never ])

-- what a search by halves says of each place, said of the numbers
front_below : (xs : List ℕ) (i x : ℕ) → ((k : ℕ) → k < i → get_or xs k 0 < x) → i ≤ length xs → (n : ℕ) → In n (take i xs) → n < x
front_below xs zero x h l n j = absurd j
front_below [] (suc i) x h l n j = absurd j
front_below (y ∷ xs) (suc i) x h l n (inl e) = subst (λ z. z < x) (sym e) (h 0 (omega arith))
front_below (y ∷ xs) (suc i) x h l n (inr j) = front_below xs i x (λ k b. h (suc k) (omega (arith, b))) (omega (arith, l)) n j

back_above : (xs : List ℕ) (i x : ℕ) → ((k : ℕ) → i ≤ k → k < length xs → x < get_or xs k 0) → (n : ℕ) → In n (drop i xs) → x < n
back_above [] zero x h n j = absurd j
back_above [] (suc i) x h n j = absurd j
back_above (y ∷ xs) zero x h n (inl e) = subst (λ z. x < z) (sym e) (h 0 (omega arith) (omega arith))
back_above (y ∷ xs) zero x h n (inr j) = back_above xs zero x (λ k a b. h (suc k) (omega arith) (omega (arith, b))) n j
back_above (y ∷ xs) (suc i) x h n j = back_above xs i x (λ k a b. h (suc k) (omega (arith, a)) (omega (arith, b))) n j

-- the place that a search by halves finds, and the one where a number belongs
abbrev FindsIn : List ℕ → ℕ → Result ℕ ℕ → Type 0
FindsIn xs x r = IsBinarySearchResult (λ y. nat_cmp y x) xs r

abbrev IsPlaceFor : List ℕ → ℕ → ℕ → Type 0
IsPlaceFor xs x i = (i ≤ length xs) × ((k : ℕ) → k < i → get_or xs k 0 < x) × ((k : ℕ) → i ≤ k → k < length xs → x < get_or xs k 0)

pub place_of : (searched_in xs : List ℕ) (x i : ℕ) → searched_in ≡ xs → IsRising xs → FindsIn searched_in x (Ok i) → (i < length xs) × (get_or xs i 0 ≡ x)
place_of searched_in xs x i same a found = searched xs x (Ok i) (subst (λ l. FindsIn l x (Ok i)) same found) (rises xs a)

pub place_for : (searched_in xs : List ℕ) (x i : ℕ) → searched_in ≡ xs → IsRising xs → FindsIn searched_in x (Err i) → IsPlaceFor xs x i
place_for searched_in xs x i same a found = searched xs x (Err i) (subst (λ l. FindsIn l x (Err i)) same found) (rises xs a)

-- a number that belongs between two parts of the list
module _ (xs : List ℕ) (i x : ℕ) (rising : IsRising xs) (place : IsPlaceFor xs x i) where
  below : (n : ℕ) → In n (take i xs) → n < x
  below = front_below xs i x place.1 place.0

  above : (n : ℕ) → In n (drop i xs) → x < n
  above = back_above xs i x place.2

  whole : take i xs ++ drop i xs ≡ xs
  whole = take-append-drop i xs

  pub is_absent : ¬ In x xs
  is_absent j = elim (in_either (take i xs) (drop i xs) x (subst (In x) (sym whole) j)) [
    | inl k ↦ let b = below x k in omega (arith, b)
    | inr k ↦ let b = above x k in omega (arith, b)
  ]

  pub rising_inserted : IsRising (insert xs i x)
  rising_inserted =
      let p = parted (take i xs) (drop i xs) (subst IsRising (sym whole) rising) in
      joined (take i xs) (x ∷ drop i xs) p.0 (above, p.1) (λ m n j k. elim k [ inl e ↦ subst (λ z. m < z) (sym e) (below m j) | inr l ↦ p.2 m n j l ])

-- one number more
pub in_inserted : (xs : List ℕ) (i x n : ℕ) → In n (insert xs i x) ↔ (In n xs ⊎ (n ≡ x))
in_inserted xs i x n = (
  λ j. elim (in_either (take i xs) (x ∷ drop i xs) n j) [
    | inl k ↦ inl (subst (In n) (take-append-drop i xs) (in_left (take i xs) (drop i xs) n k))
    | inr (inl e) ↦ inr e
    | inr (inr k) ↦ inl (subst (In n) (take-append-drop i xs) (in_right (take i xs) (drop i xs) n k))
  ],
  λ d. elim d [
    | inl j ↦ elim (in_either (take i xs) (drop i xs) n (subst (In n) (sym (take-append-drop i xs)) j)) [
      | inl k ↦ in_left (take i xs) (x ∷ drop i xs) n k
      | inr k ↦ in_right (take i xs) (x ∷ drop i xs) n (inr k)
    ]
    | inr e ↦ in_right (take i xs) (x ∷ drop i xs) n (inl e)
  ],
)

-- one number less
abbrev IsWithout : List ℕ → ℕ → List ℕ → Type 0
IsWithout xs x ys = IsRising ys × ((n : ℕ) → In n ys ↔ (In n xs × (n ≢ x)))

without : (front back : List ℕ) (x : ℕ) → IsRising (front ++ x ∷ back) → IsWithout (front ++ x ∷ back) x (front ++ back)
without front back x a =
    let p = parted front (x ∷ back) a in (
      joined front back p.0 p.1.1 (λ m n i j. p.2 m n i (inr j)),
      λ n. (
        λ i. elim (in_either front back n i) [
          | inl j ↦ (in_left front (x ∷ back) n j, λ e. let b = p.2 n x j (inl refl) in omega (arith, b, e))
          | inr j ↦ (in_right front (x ∷ back) n (inr j), λ e. let b = p.1.0 n j in omega (arith, b, e))
        ],
        λ c. elim (in_either front (x ∷ back) n c.0) [
          | inl j ↦ in_left front back n j
          | inr (inl e) ↦ absurd (c.1 e)
          | inr (inr j) ↦ in_right front back n j
        ],
      ),
    )

pub removed : (xs : List ℕ) (i x : ℕ) → IsRising xs → (i < length xs) × (get_or xs i 0 ≡ x) → IsWithout xs x (remove xs i)
removed xs i x a at =
    let more : i + 1 ≡ suc i = omega arith in
    let split = splits_at xs i x at.0 (sym at.1 ∙ sym (get_or_default xs i x 0 at.0)) in
    subst (λ k. IsWithout xs x (take i xs ++ drop k xs)) more
    (subst (λ l. IsWithout l x (take i xs ++ drop (i + 1) xs)) (sym split) (without (take i xs) (drop (i + 1) xs) x (subst IsRising split a)))

-- none is taken where the number is not there
pub without_absent : (xs : List ℕ) (x n : ℕ) → ¬ In x xs → In n xs ↔ (In n xs × (n ≢ x))
without_absent xs x n absent = ((λ i. (i, λ e. absent (subst (λ k. In k xs) e i))), λ c. c.0)

-- none is added where the number is there
pub with_present : (xs : List ℕ) (x n : ℕ) → In x xs → In n xs ↔ (In n xs ⊎ (n ≡ x))
with_present xs x n there = ((λ i. inl i), λ d. elim d [ inl i ↦ i | inr e ↦ subst (λ k. In k xs) (sym e) there ])
