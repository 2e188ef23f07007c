-- Parts of a list, in its order.
use Rattle.ghc_depend.proofs.Words.{◌≡◌, ◌⊎◌, List, [], ◌∷◌, ◌++◌, refl, sym, ap, subst, inl, inr, In, in_right, in_either, in_more, Picks, nothing, leave, AreDistinct, Record, numbers, Before, before_in, before_once, number_in, number_of, numbers_append, Precedes, before_is, Decided, arith}
use Rattle.ghc_records.specs.Orders.{take}
pub use Rattle.ghc_flat.proofs.DistinctLemmas.{distinct_left, distinct_right, distinct_split}
pub use Rattle.ghc_records.proofs.PickLemmas.{either_before, before_left, before_right, before_across, before_last, kept_in, picks_in, picks_has, picks_order, picks_keep, picks_distinct, pick_last, leave_last, no_longer}

module _ {X : Type 0} where
  pub before_front : (done rest : List X) (r m : X) → In m done → Before (done ++ r ∷ rest) m r
  before_front [] rest r m i = absurd i
  before_front (s ∷ done) rest r m (inl e) = inl (e, in_right done (r ∷ rest) r (inl refl))
  before_front (s ∷ done) rest r m (inr i) = inr (before_front done rest r m i)

  pub behind_before : (done rest : List X) (r m : X) → In m rest → Before (done ++ r ∷ rest) r m
  behind_before [] rest r m i = inl (refl, i)
  behind_before (s ∷ done) rest r m i = inr (behind_before done rest r m i)

  -- what stands before an element, stands in front of it
  pub stands_in_front : (xs front back : List X) (r a : X) → AreDistinct xs → xs ≡ front ++ r ∷ back → Before xs a r → In a front
  stands_in_front xs front back r a distinct e before =
      let either = in_either front (r ∷ back) a in
      grind (arith, before_in xs a r before, before_once xs a r distinct, before_once xs r r distinct, behind_before front back r a)

  -- the first element that is bad, where each is bad or good
  pub first_bad : (Bad Good : X → Type 0) (xs : List X) → ((x : X) → In x xs → Bad x ⊎ Good x)
      → ((front back : List X) × (x : X) × (xs ≡ front ++ x ∷ back) × Bad x × ((y : X) → In y front → Good y)) ⊎ ((x : X) → In x xs → Good x)
  first_bad Bad Good [] f = inr (λ x i. absurd i)
  first_bad Bad Good (x ∷ xs) f = elim (f x (inl refl)) [
    | inl b ↦ inl ([], xs, x, refl, b, λ y i. absurd i)
    | inr g ↦ elim (first_bad Bad Good xs (λ y i. f y (inr i))) [
      | inl p ↦ inl (x ∷ p.0, p.1, p.2, ap (λ l. x ∷ l) p.3, p.4, λ y i. elim i [ inl e ↦ subst Good (sym e) g | inr j ↦ p.5 y j ])
      | inr all ↦ inr (λ y i. elim i [ inl e ↦ subst Good (sym e) g | inr j ↦ all y j ])
    ]
  ]

  -- the first element of which Q holds, or it holds of none
  pub first_of : (Q : X → Type 0) (xs : List X) → ((x : X) → Q x → In x xs) → ((x : X) → In x xs → Decided (Q x))
      → ((x : X) × (Q x × ((y : X) → Q y → (y ≡ x) ⊎ Precedes xs x y))) ⊎ ((x : X) → ¬ Q x)
  first_of Q xs within known = elim (first_bad Q (λ x. ¬ Q x) xs known) [
    | inl p ↦ inl (
      p.2,
      (
        p.4,
        λ y q. elim (in_either p.0 (p.2 ∷ p.1) y (subst (In y) p.3 (within y q))) [
          | inl i ↦ absurd (p.5 y i q)
          | inr (inl same) ↦ inl same
          | inr (inr i) ↦ inr (before_is xs p.2 y (subst (λ z. Before z p.2 y) (sym p.3) (behind_before p.0 p.1 p.2 y i)))
        ],
      ),
    )
    | inr none ↦ inr (λ x q. none x (within x q) q)
  ]

  pub never_nothing : (xs : List X) (x : X) → ¬ (xs ++ x ∷ [] ≡ [])
  never_nothing [] x e = cc
  never_nothing (y ∷ xs) x e = cc

  pub distinct_push : (xs : List X) (x : X) → AreDistinct xs → ¬ In x xs → AreDistinct (xs ++ x ∷ [])
  distinct_push [] x d new = ((λ i. i), tt)
  distinct_push (y ∷ xs) x d new = ((λ i. elim (in_more xs x y i) [ inl j ↦ d.0 j | inr e ↦ new (inl (sym e)) ]), distinct_push xs x d.1 (λ i. new (inr i)))

module _ {X : Type 0} {P : X → Type 0} where
  -- where it is known of each element whether P holds of it, the elements can be picked
  pub pick : (xs : List X) → ((x : X) → In x xs → P x ⊎ (¬ P x)) → (ys : List X) × Picks P xs ys
  pick [] known = ([], nothing)
  pick (x ∷ xs) known =
      let rest = pick xs (λ y i. known y (inr i)) in
      elim (known x (inl refl)) [
        | inl p ↦ (x ∷ rest.0, take p rest.1)
        | inr n ↦ (rest.0, leave n rest.1)
      ]

-- a record more, of a new number
pub records_push : (rs : List Record) (r : Record) → AreDistinct (numbers rs) → ¬ In r.number (numbers rs) → AreDistinct (numbers (rs ++ r ∷ []))
records_push rs r d new = subst AreDistinct (sym (numbers_append rs (r ∷ []))) (distinct_push (numbers rs) r.number d new)

-- lists with no number in common have distinct numbers together
pub distinct_both : (xs ys : List Record) → AreDistinct (numbers xs) → AreDistinct (numbers ys) → ((x y : Record) → In x xs → In y ys → ¬ (x.number ≡ y.number)) → AreDistinct (numbers (xs ++ ys))
distinct_both [] ys d e apart = e
distinct_both (x ∷ xs) ys d e apart = (
  (λ i.
      let q = number_of (xs ++ ys) x.number i in
      elim (in_either xs ys q.0 q.1) [
        | inl j ↦ d.0 (subst (λ n. In n (numbers xs)) q.2 (number_in xs q.0 j))
        | inr j ↦ apart x q.0 (inl refl) j (sym q.2)
      ]),
  distinct_both xs ys d.1 e (λ z y i j. apart z y (inr i) j),
)
