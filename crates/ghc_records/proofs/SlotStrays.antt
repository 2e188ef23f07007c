-- The strays of slots, where a slot is put after the others, where a record is taken out, and where gaps are closed up.
use Rattle.ghc_records.proofs.Words.{◌≡◌, ◌≢◌, ◌+◌, ◌<◌, ◌≤◌, ℕ, zero, suc, cond, [], ◌∷◌, ◌++◌, length, take, filter, get_or, refl, sym, ap, ◌∙◌, subst, inl, inr, arith, ◌↔◌, Option, Some, None, is_some, slice_set, nat_cmp, filter_more, In, AreDistinct, Record, numbers, SlotList, PlacesByNumber, held_in, StandsIn, HasNumberIn, HasStrayIn, AreStraysOf, IsChangedAt}
use Rattle.std.specs.FinMap as finite
use Rattle.ghc_records.proofs.CutTexts.{taken_at}
use Rattle.ghc_records.proofs.NumberSets.{one_or_not}
use Rattle.ghc_records.proofs.SlotLemmas.{stands_held, held_stands, held_closed, stands_more, stands_still, stands_last, stands_without, still_stands}
use Rattle.ghc_records.proofs.SlotPlaces.{one_record}
use Rattle.ghc_records.proofs.SlotClosing.{once_of}

-- nothing stands under the number of no stray
none_there : (ss : SlotList) (strays : PlacesByNumber) (k : ℕ) → AreStraysOf ss strays → ((p : ℕ) → ¬ HasStrayIn ss p k) → IsChangedAt strays strays k None
none_there ss strays k h none = (
  elim (finite.get strays k) as (λ o. finite.get strays k ≡ o → o ≡ None) [
    | None ↦ λ e. refl
    | Some p ↦ λ e. absurd (none p ((h k p).0 e))
  ] refl,
  λ n d. refl,
)

nothing_under : (strays : PlacesByNumber) (n p : ℕ) → strays ≡ finite.empty → finite.get strays n ≢ Some p
nothing_under strays n p e g = let clash : None ≡ Some p = sym (finite.get-empty nat_cmp n) ∙ ap (λ m. finite.get m n) (sym e) ∙ g in cc

pub strays_none : (ss : SlotList) (strays : PlacesByNumber) → ss ≡ [] → strays ≡ finite.empty → AreStraysOf ss strays
strays_none ss strays s e = subst (λ l. AreStraysOf l strays) (sym s) (λ n p. (
  λ g. absurd (nothing_under strays n p e g),
  λ w. absurd (let clash : None ≡ Some (Some w.0.0) = w.0.1 in cc),
))

-- where there are no strays, each record stands just below its number
pub just_below : (ss : SlotList) (strays : PlacesByNumber) (p : ℕ) (r : Record) → AreStraysOf ss strays → strays ≡ finite.empty → StandsIn ss p r → p + 1 ≡ r.number
just_below ss strays p r h e stands = elim (one_or_not (p + 1) r.number) [
  | inl same ↦ same
  | inr d ↦ absurd (nothing_under strays r.number p e ((h r.number p).1 ((r, stands, refl), d)))
]

-- one slot more
strays_more : (ss : SlotList) (old new : PlacesByNumber) (s : Record) (o : Option ℕ) → AreStraysOf ss old → ((r : Record) → In r (held_in ss) → r.number ≢ s.number)
    → IsChangedAt old new s.number o → ((p : ℕ) → (o ≡ Some p) ↔ ((p ≡ length ss) × (p + 1 ≢ s.number))) → AreStraysOf (ss ++ Some s ∷ []) new
strays_more ss old new s o h fresh change here n p = elim (one_or_not n s.number) [
  | inl e ↦
      let there = ap (finite.get new) e ∙ change.0 in (
        λ g. let w = (here p).0 (sym there ∙ g) in ((s, subst (λ i. StandsIn (ss ++ Some s ∷ []) i s) (sym w.0) (stands_last ss s), sym e), λ q. w.1 (q ∙ e)),
        λ w. there ∙ (here p).1 (elim (stands_more ss p s w.0.0 w.0.1) [ inl k ↦ absurd (fresh w.0.0 (stands_held ss p w.0.0 k) (w.0.2 ∙ e)) | inr k ↦ (k.0, λ q. w.1 (q ∙ sym e)) ]),
      )
  | inr d ↦
      let there = change.1 n d in (
        λ g. let w = (h n p).0 (sym there ∙ g) in ((w.0.0, stands_still ss p s w.0.0 w.0.1, w.0.2), w.1),
        λ w. there ∙ (h n p).1 (elim (stands_more ss p s w.0.0 w.0.1) [ inl k ↦ ((w.0.0, k, w.0.2), w.1) | inr k ↦ absurd (d (sym w.0.2 ∙ ap (λ (z : Record). z.number) k.1)) ]),
      )
]

-- with a record just below its number
pub strays_same : (ss : SlotList) (strays : PlacesByNumber) (s : Record) → AreStraysOf ss strays → ((r : Record) → In r (held_in ss) → r.number ≢ s.number)
    → length ss + 1 ≡ s.number → AreStraysOf (ss ++ Some s ∷ []) strays
strays_same ss strays s h fresh below = strays_more ss strays strays s None h fresh (none_there ss strays s.number h (λ p w. fresh w.0.0 (stands_held ss p w.0.0 w.0.1) w.0.2)) (λ p. (
  λ e. absurd (let clash : None ≡ Some p = e in cc),
  λ w. absurd (w.1 (ap (λ i. i + 1) w.0 ∙ below)),
))

-- with a stray
pub strays_one : (ss : SlotList) (old new : PlacesByNumber) (s : Record) (place : ℕ) → AreStraysOf ss old → ((r : Record) → In r (held_in ss) → r.number ≢ s.number)
    → place ≡ length ss → length ss + 1 ≢ s.number → IsChangedAt old new s.number (Some place) → AreStraysOf (ss ++ Some s ∷ []) new
strays_one ss old new s place h fresh at other change = strays_more ss old new s (Some place) h fresh change (λ p. (
  λ e. let same : place ≡ p = cc in (sym same ∙ at, λ q. other (ap (λ i. i + 1) (sym at ∙ same) ∙ q)),
  λ w. ap Some (at ∙ sym w.0),
))

-- a gap more
strays_without : (ss : SlotList) (old new : PlacesByNumber) (place k : ℕ) → AreDistinct (numbers (held_in ss)) → AreStraysOf ss old → HasNumberIn ss place k
    → IsChangedAt old new k None → AreStraysOf (slice_set ss place None) new
strays_without ss old new place k distinct h stood change n p = elim (one_or_not n k) [
  | inl e ↦ (
    λ g. absurd (let clash : None ≡ Some p = sym (ap (finite.get new) e ∙ change.0) ∙ g in cc),
    λ w. let s = stands_without ss place p w.0.0 w.0.1 in absurd (s.1 (once_of ss distinct p place w.0.0 stood.0 s.0 stood.1 (w.0.2 ∙ e ∙ sym stood.2))),
  )
  | inr d ↦
      let there = change.1 n d in (
        λ g. let w = (h n p).0 (sym there ∙ g) in ((w.0.0, still_stands ss place p w.0.0 w.0.1 (λ same. d (sym w.0.2 ∙ ap (λ (z : Record). z.number) (one_record ss p place w.0.0 stood.0 w.0.1 stood.1 same) ∙ stood.2)), w.0.2), w.1),
        λ w. let s = stands_without ss place p w.0.0 w.0.1 in there ∙ (h n p).1 ((w.0.0, s.0, w.0.2), w.1),
      )
]

-- where a record stood just below its number
pub gap_same : (ss : SlotList) (strays : PlacesByNumber) (place k : ℕ) → AreDistinct (numbers (held_in ss)) → AreStraysOf ss strays → HasNumberIn ss place k
    → place + 1 ≡ k → AreStraysOf (slice_set ss place None) strays
gap_same ss strays place k distinct h stood below = strays_without ss strays strays place k distinct h stood
    (none_there ss strays k h (λ p w. w.1 (ap (λ i. i + 1) (once_of ss distinct p place w.0.0 stood.0 w.0.1 stood.1 (w.0.2 ∙ sym stood.2)) ∙ below)))

-- where a stray stood
pub gap_one : (ss : SlotList) (old new : PlacesByNumber) (place k : ℕ) → AreDistinct (numbers (held_in ss)) → AreStraysOf ss old → HasNumberIn ss place k
    → IsChangedAt old new k None → AreStraysOf (slice_set ss place None) new
gap_one ss old new place k distinct h stood change = strays_without ss old new place k distinct h stood change

-- what the look-ups find, just below the number or else among the strays
pub found_below : (ss : SlotList) (place n : ℕ) → AreDistinct (numbers (held_in ss)) → HasNumberIn ss place n → (p : ℕ) → (Some place ≡ Some p) ↔ HasNumberIn ss p n
found_below ss place n distinct here p = (
  λ e. subst (λ q. HasNumberIn ss q n) (cc) here,
  λ w. ap Some (once_of ss distinct place p here.0 w.0 here.1 w.1 (here.2 ∙ sym w.2)),
)

pub found_stray : (ss : SlotList) (strays : PlacesByNumber) (n : ℕ) → AreStraysOf ss strays → ((p : ℕ) → p + 1 ≡ n → ¬ HasNumberIn ss p n) → (p : ℕ) → (finite.get strays n ≡ Some p) ↔ HasNumberIn ss p n
found_stray ss strays n h none p = (λ g. ((h n p).0 g).0, λ w. (h n p).1 (w, λ below. none p below w))

-- the slots in front of a place, gaps closed up, with one slot more
pub closed_more : (ss : SlotList) (i : ℕ) (o : Option Record) → i < length ss → o ≡ get_or ss i o → filter is_some (take (i + 1) ss) ≡ filter is_some (take i ss) ++ cond (is_some o) (o ∷ []) []
closed_more ss i o low is = filter_more is_some ss i o low ∙ ap (λ x. filter is_some (take i ss) ++ cond (is_some x) (x ∷ []) []) (sym is)

pub closed_few : (ss : SlotList) (i : ℕ) → length (filter is_some (take i ss)) ≤ i
closed_few ss zero = omega arith
closed_few [] (suc i) = omega arith
closed_few (Some s ∷ ss) (suc i) = omega (arith, closed_few ss i)
closed_few (None ∷ ss) (suc i) = omega (arith, closed_few ss i)

-- whose records have other numbers than the one that is next
pub front_apart : (ss : SlotList) (i : ℕ) (s : Record) → AreDistinct (numbers (held_in ss)) → StandsIn ss i s → (a : Record) → In a (held_in (filter is_some (take i ss))) → a.number ≢ s.number
front_apart ss i s distinct here a j e =
    let w = held_stands (take i ss) a (subst (In a) (held_closed (take i ss)) j) in
    let k = taken_at i ss w.0 (Some a) w.1 in
    let same = once_of ss distinct w.0 i a s k.1 here e in
    omega (arith, k.0, same)
