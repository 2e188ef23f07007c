-- How many records stand in front of a slot: by that the places of slots are places in the record.
use Rattle.ghc_records.proofs.Words.{◌≡◌, ◌+◌, ◌<◌, ◌≤◌, ℕ, zero, suc, List, [], ◌∷◌, length, map, refl, sym, ap, ◌∙◌, subst, inl, inr, arith, Option, Some, None, IsSome, slice_get, Bor, cases_order, In, in_map, Record, SlotList, held_in, StandsIn, HasNumberIn}
use Rattle.std.specs.Prelude.{option_copied}
use Rattle.ghc_records.proofs.Effects.{mapped}

abbrev pub rank : SlotList → ℕ → ℕ
rank [] p = 0
rank (s ∷ ss) zero = 0
rank (None ∷ ss) (suc p) = rank ss p
rank (Some r ∷ ss) (suc p) = suc (rank ss p)

pub rank_zero : (ss : SlotList) → rank ss 0 ≡ 0
rank_zero [] = refl
rank_zero (s ∷ ss) = refl

-- the record in a slot stands at its rank
pub rank_stands : (ss : SlotList) (p : ℕ) (r : Record) → StandsIn ss p r → slice_get (held_in ss) (rank ss p) ≡ Some r
rank_stands (Some s ∷ ss) zero r h = let same : s ≡ r = cc in ap Some same
rank_stands (None ∷ ss) (suc p) r h = rank_stands ss p r h
rank_stands (Some s ∷ ss) (suc p) r h = rank_stands ss p r h
rank_stands ss p r h = cc

-- and what stands in the record stands in a slot of that rank
pub rank_back : (ss : SlotList) (i : ℕ) (r : Record) → slice_get (held_in ss) i ≡ Some r → (p : ℕ) × StandsIn ss p r × (rank ss p ≡ i)
rank_back [] i r e = cc
rank_back (None ∷ ss) i r e = let q = rank_back ss i r e in (suc q.0, q.1, q.2)
rank_back (Some s ∷ ss) zero r e = let same : s ≡ r = cc in (0, ap (λ z. Some (Some z)) same, refl)
rank_back (Some s ∷ ss) (suc i) r e = let q = rank_back ss i r e in (suc q.0, q.1, ap suc q.2)

-- ranks are in the order of places
pub rank_less : (ss : SlotList) (p q : ℕ) (a : Record) → StandsIn ss p a → p < q → rank ss p < rank ss q
rank_less (s ∷ ss) p zero a h l = absurd (omega (arith, l))
rank_less (Some s ∷ ss) zero (suc q) a h l = omega arith
rank_less (None ∷ ss) (suc p) (suc q) a h l = rank_less ss p q a h (omega (arith, l))
rank_less (Some s ∷ ss) (suc p) (suc q) a h l = let k = rank_less ss p q a h (omega (arith, l)) in omega (arith, k)
rank_less ss p q a h l = cc

pub less_rank : (ss : SlotList) (p q : ℕ) (b : Record) → StandsIn ss q b → rank ss p < rank ss q → p < q
less_rank ss p q b h l = elim (cases_order p q) [
  | inl e ↦ let same : rank ss p ≡ rank ss q = ap (rank ss) e in absurd (omega (arith, same, l))
  | inr (inl k) ↦ k
  | inr (inr k) ↦ let m = rank_less ss q p b h k in absurd (omega (arith, m, l))
]

pub rank_least : (ss : SlotList) (p q : ℕ) → p ≤ q → rank ss p ≤ rank ss q
rank_least [] p q l = omega arith
rank_least (s ∷ ss) zero q l = omega arith
rank_least (s ∷ ss) (suc p) zero l = absurd (omega (arith, l))
rank_least (None ∷ ss) (suc p) (suc q) l = rank_least ss p q (omega (arith, l))
rank_least (Some s ∷ ss) (suc p) (suc q) l = let k = rank_least ss p q (omega (arith, l)) in omega (arith, k)

-- a slot more
pub rank_next : (ss : SlotList) (i : ℕ) (r : Record) → StandsIn ss i r → rank ss (i + 1) ≡ rank ss i + 1
rank_next (Some s ∷ ss) zero r h = ap suc (rank_zero ss)
rank_next (None ∷ ss) (suc i) r h = let e : suc i + 1 ≡ suc (i + 1) = omega arith in ap (rank (None ∷ ss)) e ∙ rank_next ss i r h
rank_next (Some s ∷ ss) (suc i) r h = let e : suc i + 1 ≡ suc (i + 1) = omega arith in let k = rank_next ss i r h in ap (rank (Some s ∷ ss)) e ∙ (omega (arith, k))
rank_next ss i r h = cc

pub rank_gap : (ss : SlotList) (i : ℕ) → ((r : Record) → ¬ StandsIn ss i r) → rank ss (i + 1) ≡ rank ss i
rank_gap [] i none = refl
rank_gap (None ∷ ss) zero none = rank_zero ss
rank_gap (Some s ∷ ss) zero none = absurd (none s refl)
rank_gap (None ∷ ss) (suc i) none = let e : suc i + 1 ≡ suc (i + 1) = omega arith in ap (rank (None ∷ ss)) e ∙ rank_gap ss i none
rank_gap (Some s ∷ ss) (suc i) none = let e : suc i + 1 ≡ suc (i + 1) = omega arith in ap (rank (Some s ∷ ss)) e ∙ ap suc (rank_gap ss i none)

-- after the last slot, all records are in front
pub rank_end : (ss : SlotList) (i : ℕ) → length ss ≤ i → rank ss i ≡ length (held_in ss)
rank_end [] i l = refl
rank_end (s ∷ ss) zero l = absurd (omega (arith, l))
rank_end (None ∷ ss) (suc i) l = rank_end ss i (omega (arith, l))
rank_end (Some s ∷ ss) (suc i) l = ap suc (rank_end ss i (omega (arith, l)))

-- what was found at a place is there
pub some_of : (o : Option (Bor Record)) (r : Record) → option_copied o ≡ Some r → IsSome o
some_of None r e = cc
some_of (Some a) r e = refl

-- the same of a record that is held in slots
module _ (kept : List Record) (ss : SlotList) (is : kept ≡ held_in ss) where
  pub ranked_at : (p : ℕ) (r : Record) → StandsIn ss p r → slice_get kept (rank ss p) ≡ Some r
  ranked_at p r h = subst (λ l. slice_get l (rank ss p) ≡ Some r) (sym is) (rank_stands ss p r h)

  pub ranked : (p n : ℕ) → HasNumberIn ss p n → (r : Record) × (slice_get kept (rank ss p) ≡ Some r) × (r.number ≡ n)
  ranked p n h = (h.0, ranked_at p h.0 h.1, h.2)

-- ranks of a list of places
pub of_map : (f : ℕ → ℕ) (ps : List ℕ) (q : ℕ) → In q (map f ps) → (p : ℕ) × In p ps × (f p ≡ q)
of_map f ps q i = let (p, j, e) = mapped f ps q i in (p, j, sym e)

pub map_of : (f : ℕ → ℕ) (ps : List ℕ) (p : ℕ) → In p ps → In (f p) (map f ps)
map_of = in_map
