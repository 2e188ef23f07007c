-- Records in slots: what is held, in which order, and what a slot more, a gap, or the gaps closed up leave.
use Rattle.ghc_records.proofs.Words.{◌≡◌, ◌≢◌, ◌+◌, ◌<◌, ◌≤◌, ◌⊎◌, ℕ, zero, suc, [], ◌∷◌, ◌++◌, length, refl, sym, ap, ◌∙◌, subst, inl, inr, arith, filter, Some, None, slice_set, is_some, slice_get_within, push_before, push_either, push_last, set_other, In, in_more, Picks, leave, AreDistinct, Record, numbers, SlotList, held_in, StandsIn}
use Rattle.std.proofs.lemmas.List.{length-append}
use Rattle.ghc_records.specs.Orders.{take}
use Rattle.ghc_records.proofs.OrderLemmas.{Before, number_in, number_of, records_distinct}
use Rattle.ghc_records.proofs.PickLemmas.{others_all, picks_distinct}

-- a record in a slot is held
pub stands_held : (ss : SlotList) (p : ℕ) (r : Record) → StandsIn ss p r → In r (held_in ss)
stands_held (Some s ∷ ss) zero r h = let same : s ≡ r = cc in inl (sym same)
stands_held (Some s ∷ ss) (suc p) r h = inr (stands_held ss p r h)
stands_held (None ∷ ss) (suc p) r h = stands_held ss p r h
stands_held ss p r h = cc

-- a record held has a slot
pub held_stands : (ss : SlotList) (r : Record) → In r (held_in ss) → (p : ℕ) × StandsIn ss p r
held_stands [] r i = absurd i
held_stands (Some s ∷ ss) r (inl e) = (0, ap (λ z. Some (Some z)) (sym e))
held_stands (Some s ∷ ss) r (inr i) = let q = held_stands ss r i in (suc q.0, q.1)
held_stands (None ∷ ss) r i = let q = held_stands ss r i in (suc q.0, q.1)

-- places are in recorded order
pub stands_before : (ss : SlotList) (p q : ℕ) (a b : Record) → StandsIn ss p a → StandsIn ss q b → p < q → Before (held_in ss) a b
stands_before (s ∷ ss) p zero a b h k l = absurd (omega (arith, l))
stands_before (Some s ∷ ss) zero (suc q) a b h k l = let same : s ≡ a = cc in inl (sym same, stands_held ss q b k)
stands_before (Some s ∷ ss) (suc p) (suc q) a b h k l = inr (stands_before ss p q a b h k (omega (arith, l)))
stands_before (None ∷ ss) (suc p) (suc q) a b h k l = stands_before ss p q a b h k (omega (arith, l))
stands_before ss p q a b h k l = cc

-- one slot more
pub held_last : (ss : SlotList) (r : Record) → held_in (ss ++ Some r ∷ []) ≡ held_in ss ++ r ∷ []
held_last [] r = refl
held_last (Some s ∷ ss) r = ap (λ l. s ∷ l) (held_last ss r)
held_last (None ∷ ss) r = held_last ss r

-- and the numbers stay distinct where its number is new
pub more_distinct : (ss : SlotList) (r : Record) → AreDistinct (numbers (held_in ss)) → ((a : Record) → In a (held_in ss) → a.number ≢ r.number) → AreDistinct (numbers (held_in (ss ++ Some r ∷ [])))
more_distinct [] r d fresh = ((λ i. i), tt)
more_distinct (None ∷ ss) r d fresh = more_distinct ss r d fresh
more_distinct (Some s ∷ ss) r d fresh = (
  (λ i.
      let a = number_of (held_in (ss ++ Some r ∷ [])) s.number i in
      elim (in_more (held_in ss) r a.0 (subst (In a.0) (held_last ss r) a.1)) [
        | inl j ↦ d.0 (subst (λ n. In n (numbers (held_in ss))) a.2 (number_in (held_in ss) a.0 j))
        | inr e ↦ fresh s (inl refl) (sym a.2 ∙ ap (λ (z : Record). z.number) e)
      ]),
  more_distinct ss r d.1 (λ a i. fresh a (inr i)),
)

pub held_more : (ss : SlotList) (r : Record) → length (held_in (ss ++ Some r ∷ [])) ≡ length (held_in ss) + 1
held_more ss r = ap length (held_last ss r) ∙ length-append (held_in ss) (r ∷ [])

-- no more records than slots
pub held_few : (ss : SlotList) → length (held_in ss) ≤ length ss
held_few [] = omega arith
held_few (Some s ∷ ss) = omega (arith, held_few ss)
held_few (None ∷ ss) = omega (arith, held_few ss)

-- a gap where a record stood takes just that one out
pub held_without : (ss : SlotList) (p : ℕ) (r : Record) → AreDistinct (held_in ss) → StandsIn ss p r → Picks (λ s. ¬ (s ≡ r)) (held_in ss) (held_in (slice_set ss p None))
held_without (Some s ∷ ss) zero r d h = let same : s ≡ r = cc in leave (λ k. k same) (others_all r (held_in ss) (subst (λ z. ¬ In z (held_in ss)) same d.0))
held_without (Some s ∷ ss) (suc p) r d h = take (λ e. d.0 (subst (λ z. In z (held_in ss)) (sym e) (stands_held ss p r h))) (held_without ss p r d.1 h)
held_without (None ∷ ss) (suc p) r d h = held_without ss p r d h
held_without ss p r d h = cc

pub without_distinct : (ss : SlotList) (p : ℕ) (r : Record) → AreDistinct (numbers (held_in ss)) → StandsIn ss p r → AreDistinct (numbers (held_in (slice_set ss p None)))
without_distinct ss p r d h = picks_distinct (held_in ss) (held_in (slice_set ss p None)) (held_without ss p r (records_distinct (held_in ss) d) h) d

pub held_fewer : (ss : SlotList) (p : ℕ) (r : Record) → StandsIn ss p r → length (held_in ss) ≡ length (held_in (slice_set ss p None)) + 1
held_fewer (Some s ∷ ss) zero r h = omega arith
held_fewer (Some s ∷ ss) (suc p) r h = omega (arith, held_fewer ss p r h)
held_fewer (None ∷ ss) (suc p) r h = held_fewer ss p r h
held_fewer ss p r h = cc

-- and the other slots are as they were
pub stands_without : (ss : SlotList) (p q : ℕ) (r : Record) → StandsIn (slice_set ss p None) q r → StandsIn ss q r × (q ≢ p)
stands_without [] p q r h = cc
stands_without (s ∷ ss) zero zero r h = cc
stands_without (s ∷ ss) zero (suc q) r h = (h, λ e. omega (arith, e))
stands_without (s ∷ ss) (suc p) zero r h = (h, λ e. omega (arith, e))
stands_without (s ∷ ss) (suc p) (suc q) r h = let k = stands_without ss p q r h in (k.0, λ e. k.1 (omega (arith, e)))

pub still_stands : (ss : SlotList) (p q : ℕ) (r : Record) → StandsIn ss q r → q ≢ p → StandsIn (slice_set ss p None) q r
still_stands ss p q r h n = set_other ss p q None n ∙ h

-- gaps closed up leave what is held
pub held_closed : (ss : SlotList) → held_in (filter is_some ss) ≡ held_in ss
held_closed [] = refl
held_closed (Some s ∷ ss) = ap (λ l. s ∷ l) (held_closed ss)
held_closed (None ∷ ss) = held_closed ss

-- one slot more has its record, and the others theirs
pub stands_more : (ss : SlotList) (q : ℕ) (s r : Record) → StandsIn (ss ++ Some s ∷ []) q r → StandsIn ss q r ⊎ ((q ≡ length ss) × (r ≡ s))
stands_more ss q s r h = elim (push_either ss (Some s) (Some r) q h) [ inl k ↦ inl k | inr k ↦ let same : r ≡ s = cc in inr (k.0, same) ]

pub stands_still : (ss : SlotList) (q : ℕ) (s r : Record) → StandsIn ss q r → StandsIn (ss ++ Some s ∷ []) q r
stands_still ss q s r h = push_before ss (Some s) q (slice_get_within ss q (Some r) h) ∙ h

pub stands_last : (ss : SlotList) (s : Record) → StandsIn (ss ++ Some s ∷ []) (length ss) s
stands_last ss s = push_last ss (Some s)
