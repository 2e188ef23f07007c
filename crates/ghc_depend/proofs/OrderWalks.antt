-- Walks over an order and over the record: which number is wrong, and which is missing.
use Rattle.ghc_depend.proofs.Words.{◌≡◌, ℕ, zero, suc, ◌+◌, ◌<◌, ◌≤◌, length, arith, ◌⊎◌, true, false, List, [], ◌∷◌, ◌++◌, take, get_or, refl, sym, ap, ◌∙◌, subst, inl, inr, nat_eq, Some, slice_get, list_any, position, eqb-true, cases_order, cases_lt, position-Some, slice_get-get_or, slice_get_within, In, in_more, AreDistinct, Record, numbers, SlotList, held_in, StandsIn, any_number, before_once, number_of, held_stands, rank, rank_back, rank_least, IsOfKept, IsFirstWrong, IsFirstMissing}
use borrow.Author.Count.{below_more}
use Rattle.ghc_depend.proofs.Causes.{at_split, places_before}
use Rattle.ghc_depend.proofs.Picking.{distinct_push}

-- one number more of a list of kept ones
pub one_of_kept : (kept : List Record) (done : List ℕ) (n : ℕ) → IsOfKept kept done → In n (numbers kept) → ¬ In n done → IsOfKept kept (done ++ n ∷ [])
one_of_kept kept done n k there new = grind (arith, in_more, distinct_push)

module _ (kept : List Record) (order : List ℕ) (i : ℕ) (n : ℕ) (at : slice_get order i ≡ Some n) where
  -- one number more of the order
  pub next_of_kept : IsOfKept kept (take i order) → In n (numbers kept) → ¬ In n (take i order) → IsOfKept kept (take (i + 1) order)
  next_of_kept k there new = subst (IsOfKept kept) (sym (at_split order i n at).2) (one_of_kept kept (take i order) n k there new)

  pub is_wrong : IsOfKept kept (take i order) → (¬ In n (numbers kept)) ⊎ In n (take i order) → IsFirstWrong kept order n
  is_wrong k wrong = let s = at_split order i n at in record { front = take i order; behind = s.0; splits = s.1; before = k; not_new = wrong }

-- where the first number is not kept, a number with only kept ones before it is the first
pub first_unkept : (kept : List Record) (order rest : List ℕ) (i n s : ℕ) → slice_get order i ≡ Some n → IsOfKept kept (take i order) → order ≡ s ∷ rest → ¬ In s (numbers kept) → n ≡ s
first_unkept kept order rest zero n s at k e none = let same : Some n ≡ Some s = sym at ∙ ap (λ l. slice_get l 0) e in cc
first_unkept kept order rest (suc i) n s at k e none = absurd (none (k.0 s (rw e (inl refl))))

-- what stands in front of a place has an earlier one
pub place_in_front : {X : Type 0} (xs : List X) (count : ℕ) (x : X) → In x (take count xs) → (i : ℕ) × (i < count) × (slice_get xs i ≡ Some x)
place_in_front [] zero x i = absurd i
place_in_front [] (suc count) x i = absurd i
place_in_front (y ∷ xs) zero x i = absurd i
place_in_front (y ∷ xs) (suc count) x (inl e) = (0, omega arith, ap Some (sym e))
place_in_front (y ∷ xs) (suc count) x (inr i) = let p = place_in_front xs count x i in (suc p.0, omega (arith, p.1), p.2)

-- the records so far have places, and so has one more
abbrev pub HavePlaces : List Record → ℕ → List ℕ → Type 0
HavePlaces kept i keys = (r : Record) → In r (take i kept) → In r.number keys

-- so have those of the first slots
abbrev pub HaveSlots : SlotList → ℕ → List ℕ → Type 0
HaveSlots ss i keys = (p : ℕ) (r : Record) → p < i → StandsIn ss p r → In r.number keys

pub slots_next : (ss : SlotList) (keys : List ℕ) (i : ℕ) → HaveSlots ss i keys → ((r : Record) → StandsIn ss i r → In r.number keys) → HaveSlots ss (i + 1) keys
slots_next ss keys i h here p r = below_more (λ k. StandsIn ss k r → In r.number keys) i (λ k l. h k r l) (here r) p

pub have_ranked : (ss : SlotList) (keys : List ℕ) (i : ℕ) → HaveSlots ss i keys → HavePlaces (held_in ss) (rank ss i) keys
have_ranked ss keys i h r j = grind (arith, place_in_front, rank_back, cases_lt, rank_least)

pub all_slots : (ss : SlotList) (keys : List ℕ) (i : ℕ) → length ss ≤ i → HaveSlots ss i keys → (r : Record) → In r (held_in ss) → In r.number keys
all_slots ss keys i long h r j = grind (arith, held_stands, slice_get_within)

pub is_missing : (kept : List Record) (keys : List ℕ) (i : ℕ) (r : Record) → slice_get kept i ≡ Some r → HavePlaces kept i keys → ¬ In r.number keys → IsFirstMissing kept keys r
is_missing kept keys i r at h absent = grind (arith, at_split, number_of)

pub none_missing : (kept : List Record) (keys : List ℕ) → ((r : Record) → In r kept → In r.number keys) → (n : ℕ) → In n (numbers kept) → In n keys
none_missing kept keys h n i = let q = number_of kept n i in subst (λ m. In m keys) q.2 (h q.0 q.1)

-- distinct elements have one place
pub one_place : {X : Type 0} (xs : List X) (i j : ℕ) (x : X) → AreDistinct xs → slice_get xs i ≡ Some x → slice_get xs j ≡ Some x → i ≡ j
one_place xs i j x distinct p q = elim (cases_order i j) [
  | inl e ↦ e
  | inr (inl l) ↦ let h = places_before xs i j x x p q l in absurd (before_once xs x x distinct h h)
  | inr (inr l) ↦ let h = places_before xs j i x x q p l in absurd (before_once xs x x distinct h h)
]

-- a look-up says whether a number is there
pub not_any : (n : ℕ) (ks : List ℕ) → list_any (nat_eq n) ks ≡ false → ¬ In n ks
not_any n ks e i = let clash : true ≡ false = sym (any_number n ks i) ∙ e in cc

-- the place that a look-up gives
pub place_found : (ks : List ℕ) (n i : ℕ) → position (nat_eq n) ks ≡ Some i → slice_get ks i ≡ Some n
place_found ks n i e =
    let p = position-Some (nat_eq n) ks i n e in
    slice_get-get_or ks i n p.0 ∙ ap Some (sym (eqb-true n (get_or ks i n) p.1))
