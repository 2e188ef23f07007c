-- The records in the slots before a place.
use Rattle.ghc_records.proofs.Words.{◌≡◌, ◌≢◌, ◌+◌, ◌<◌, ◌≤◌, ◌↔◌, ℕ, zero, suc, [], ◌∷◌, ◌++◌, length, take, refl, sym, ap, ◌∙◌, subst, inl, inr, arith, cases_lt, Some, None, Option, IfSome, IfNone, slice_get_within, get_or_from_slice_get, take_more, take_all, Bor, option_copied, In, in_more, VarName, AreDistinct, Record, numbers, List, Binds, SlotList, held_in, held_before, StandsIn, HasNumberIn, StepBinds, BoundOnce}
use Rattle.ghc_records.proofs.OrderLemmas.{number_in, number_of}
use Rattle.ghc_records.proofs.SlotLemmas.{stands_held, held_stands, held_last}
use Rattle.ghc_records.proofs.SlotClosing.{once_of}

-- one that stands before the place is among them, and each of them stands before it
pub front_in : (ss : SlotList) (k p : ℕ) (r : Record) → StandsIn ss p r → p < k → In r (held_before k ss)
front_in ss zero p r h l = absurd (omega (arith, l))
front_in (Some s ∷ ss) (suc k) zero r h l = let same : s ≡ r = cc in inl (sym same)
front_in (Some s ∷ ss) (suc k) (suc p) r h l = inr (front_in ss k p r h (omega (arith, l)))
front_in (None ∷ ss) (suc k) (suc p) r h l = front_in ss k p r h (omega (arith, l))
front_in ss k p r h l = cc

pub front_stands : (ss : SlotList) (k : ℕ) (r : Record) → In r (held_before k ss) → (p : ℕ) × StandsIn ss p r × (p < k)
front_stands ss zero r i = absurd i
front_stands [] (suc k) r i = absurd i
front_stands (Some s ∷ ss) (suc k) r (inl e) = (0, ap (λ z. Some (Some z)) (sym e), omega arith)
front_stands (Some s ∷ ss) (suc k) r (inr i) = let q = front_stands ss k r i in (suc q.0, q.1, omega (arith, q.2))
front_stands (None ∷ ss) (suc k) r i = let q = front_stands ss k r i in (suc q.0, q.1, omega (arith, q.2))

pub front_held : (ss : SlotList) (k : ℕ) (r : Record) → In r (held_before k ss) → In r (held_in ss)
front_held ss k r i = let q = front_stands ss k r i in stands_held ss q.0 r q.1

-- no slots have no records, and all have all
pub front_none : (ss : SlotList) → held_before 0 ss ≡ []
front_none ss = refl

pub front_all : (ss : SlotList) (k : ℕ) → k ≡ length ss → held_before k ss ≡ held_in ss
front_all ss k e = ap held_in (take_all k ss (omega (arith, e)))

-- their numbers are distinct
pub front_distinct : (ss : SlotList) (k : ℕ) → AreDistinct (numbers (held_in ss)) → AreDistinct (numbers (held_before k ss))
front_distinct ss zero d = tt
front_distinct [] (suc k) d = tt
front_distinct (Some s ∷ ss) (suc k) d = (
  λ i. let a = number_of (held_before k ss) s.number i in d.0 (subst (λ n. In n (numbers (held_in ss))) a.2 (number_in (held_in ss) a.0 (front_held ss k a.0 a.1))),
  front_distinct ss k d.1,
)
front_distinct (None ∷ ss) (suc k) d = front_distinct ss k d

-- one slot more at the end
pub front_kept : (ss : SlotList) (k : ℕ) (r : Record) → k ≤ length ss → held_before k (ss ++ Some r ∷ []) ≡ held_before k ss
front_kept ss zero r l = refl
front_kept [] (suc k) r l = absurd (omega (arith, l))
front_kept (Some s ∷ ss) (suc k) r l = ap (λ rs. s ∷ rs) (front_kept ss k r (omega (arith, l)))
front_kept (None ∷ ss) (suc k) r l = front_kept ss k r (omega (arith, l))

-- the next slot, with its record or without one
held_gap : (ss : SlotList) → held_in (ss ++ None ∷ []) ≡ held_in ss
held_gap [] = refl
held_gap (Some s ∷ ss) = ap (λ rs. s ∷ rs) (held_gap ss)
held_gap (None ∷ ss) = held_gap ss

pub front_more : (ss : SlotList) (k : ℕ) (r : Record) → StandsIn ss k r → held_before (k + 1) ss ≡ held_before k ss ++ r ∷ []
front_more ss k r h =
    ap held_in (take_more ss k None (slice_get_within ss k (Some r) h)) ∙ ap (λ o. held_in (take k ss ++ o ∷ [])) (get_or_from_slice_get ss k (Some r) None h) ∙ held_last (take k ss) r

after_gap : (ss : SlotList) (k : ℕ) → k < length ss → ((r : Record) → ¬ StandsIn ss k r) → held_before (suc k) ss ≡ held_before k ss
after_gap [] k l none = absurd (omega (arith, l))
after_gap (Some s ∷ ss) zero l none = absurd (none s refl)
after_gap (None ∷ ss) zero l none = refl
after_gap (Some s ∷ ss) (suc k) l none = ap (λ rs. s ∷ rs) (after_gap ss k (omega (arith, l)) none)
after_gap (None ∷ ss) (suc k) l none = after_gap ss k (omega (arith, l)) none

pub front_gap : (ss : SlotList) (k : ℕ) → k < length ss → ((r : Record) → ¬ StandsIn ss k r) → held_before (k + 1) ss ≡ held_before k ss
front_gap ss k l none = let next : suc k ≡ k + 1 = omega arith in subst (λ n. held_before n ss ≡ held_before k ss) next (after_gap ss k l none)

-- what stands at a place has a number that none before it has
pub front_new : (ss : SlotList) (k : ℕ) (r : Record) → AreDistinct (numbers (held_in ss)) → StandsIn ss k r → (a : Record) → In a (held_before k ss) → a.number ≢ r.number
front_new ss k r d h a i e =
    let q = front_stands ss k a i in
    let same : q.0 ≡ k = once_of ss d q.0 k a r q.1 h e in
    let l = q.2 in omega (arith, l, same)

-- what is found by its number, if it stands before the place
pub front_found : (ss : SlotList) (p k n : ℕ) (o : Option (Bor Record)) → AreDistinct (numbers (held_in ss)) → HasNumberIn ss p n → p < k → ((r : Record) → (option_copied o ≡ Some r) ↔ StandsIn ss p r)
    → IfSome o (λ r. In r.now (held_before k ss) × (r.now.number ≡ n)) × IfNone o ((r : Record) → In r (held_before k ss) → r.number ≢ n)
front_found ss p k n (Some r) d h l at =
    let stands = (at r.now).0 refl in
    let same : Some (Some r.now) ≡ Some (Some h.0) = sym stands ∙ h.1 in
    let one : r.now ≡ h.0 = cc in
    ((front_in ss k p r.now stands l, ap (λ (z : Record). z.number) one ∙ h.2), tt)
front_found ss p k n None d h l at = let clash : None ≡ Some h.0 = (at h.0).1 h.1 in cc

-- or where it stands at the place or after it, none before has the number
pub front_beyond : (ss : SlotList) (p k n : ℕ) → AreDistinct (numbers (held_in ss)) → HasNumberIn ss p n → k ≤ p → (r : Record) → In r (held_before k ss) → r.number ≢ n
front_beyond ss p k n d h far r i e =
    let q = front_stands ss k r i in
    let same : q.0 ≡ p = once_of ss d q.0 p r h.0 q.1 h.1 (e ∙ sym h.2) in
    let l = q.2 in omega (arith, l, same, far)

-- no two steps of what is left bound one variable, and none of one step more
pub apart_within : (rs left : List Record) → ((r : Record) → In r left → In r rs) → BoundOnce rs → BoundOnce left
apart_within rs left within once a b x i j = once a b x (within a i) (within b j)

pub apart_more : (rs : List Record) (r : Record) → BoundOnce rs → ((a : Record) (x : VarName) → In a rs → Binds a x → ¬ Binds r x) → BoundOnce (rs ++ r ∷ [])
apart_more rs r once fresh a b x i j p q = elim (in_more rs r a i) [
  | inl k ↦ elim (in_more rs r b j) [
    | inl l ↦ once a b x k l p q
    | inr e ↦ absurd (fresh a x k p (subst (λ z. Binds z x) e q))
  ]
  | inr e ↦ elim (in_more rs r b j) [
    | inl l ↦ absurd (fresh b x l q (subst (λ z. Binds z x) e p))
    | inr f ↦ ap (λ (z : Record). z.number) (e ∙ sym f)
  ]
]

-- the one step that bound a variable
pub one_binder : (rs : List Record) (x : VarName) (n : ℕ) → BoundOnce rs → StepBinds rs n x → (m : ℕ) → (Some n ≡ Some m) ↔ StepBinds rs m x
one_binder rs x n once is m = (
  λ e. let same : n ≡ m = cc in subst (λ k. StepBinds rs k x) same is,
  λ s. ap Some (sym is.2 ∙ once is.0 s.0 x is.1 s.1 is.3 s.3 ∙ s.2),
)

-- a step before the place that bound it, or else one from there on
pub binder_before : (ss : SlotList) (k n : ℕ) (x : VarName) → StepBinds (held_before k ss) n x → StepBinds (held_in ss) n x
binder_before ss k n x s = (s.0, front_held ss k s.0 s.1, s.2, s.3)

pub no_binder_at_all : (ss : SlotList) (k : ℕ) (x : VarName) → ((n : ℕ) → ¬ StepBinds (held_before k ss) n x) → ((p : ℕ) (r : Record) → k ≤ p → StandsIn ss p r → ¬ Binds r x) → (n : ℕ) → ¬ StepBinds (held_in ss) n x
no_binder_at_all ss k x before behind n s =
    let q = held_stands ss s.0 s.1 in
    elim (cases_lt q.0 k) [ inl l ↦ before n (s.0, front_in ss k q.0 s.0 q.1 l, s.2, s.3) | inr l ↦ behind q.0 s.0 l q.1 s.3 ]

-- what is found of the binder of a variable, where the slots before the place have none
pub binder_found : (rs : List Record) (x : VarName) (o : Option ℕ) → BoundOnce rs → IfSome o (λ n. StepBinds rs n x) → IfNone o ((n : ℕ) → ¬ StepBinds rs n x) → (m : ℕ) → (o ≡ Some m) ↔ StepBinds rs m x
binder_found rs x (Some n) once some none m = one_binder rs x n once some m
binder_found rs x None once some none m = (λ e. cc, λ s. absurd (none m s))

pub none_found : (ss : SlotList) (k : ℕ) (x : VarName) (o : Option ℕ) → ((n : ℕ) → ¬ StepBinds (held_before k ss) n x) → IfNone o ((p : ℕ) (r : Record) → k ≤ p → StandsIn ss p r → ¬ Binds r x) → IfNone o ((n : ℕ) → ¬ StepBinds (held_in ss) n x)
none_found ss k x (Some n) before behind = tt
none_found ss k x None before behind = no_binder_at_all ss k x before behind
