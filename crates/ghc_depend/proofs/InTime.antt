-- Which step of an order is the first that stands too early.
use Rattle.ghc_depend.proofs.Words.{◌≡◌, ℕ, ◌+◌, ◌<◌, ◌≤◌, List, [], ◌∷◌, ◌++◌, length, take, refl, sym, ap, ◌∙◌, subst, inl, inr, arith, Some, slice_get, cases_lt, eq-or-lt_of_le, In, in_at, in_more, AreDistinct, Record, numbers, SlotList, held_in, StandsIn, StepDependsOn, rank, rank_back, rank_least, is_before, before_is, before_in, record_once, Uses, IsTooEarly, StandsBehind, IsNoFurther, IsInTime, AreInTime, IsFirstNeeded, IsFirstTooEarly, slice_get_within}
use borrow.Author.Count.{below_more}
use Rattle.ghc_depend.proofs.Finding.{same_value, ends}
use Rattle.ghc_depend.proofs.OrderWalks.{place_in_front}
use Rattle.ghc_depend.proofs.Causes.{at_split, stands_before, place_before, places_before, before_places, place_at}

-- one place more is in time
pub time_next : (kept : List Record) (order : List ℕ) (i n : ℕ) → slice_get order i ≡ Some n → AreInTime kept order i → IsInTime kept order n → AreInTime kept order (i + 1)
time_next kept order i n at h here place m = below_more (λ k. slice_get order k ≡ Some m → IsInTime kept order m) i
    (λ k l. h k m l)
    (λ there. subst (IsInTime kept order) (same_value at there) here) place

-- a number that is not kept is of no step that stands too early
pub not_kept_in_time : (kept : List Record) (order : List ℕ) (n : ℕ) → ((r : Record) → In r kept → ¬ (r.number ≡ n)) → IsInTime kept order n
not_kept_in_time kept order n none a b e t = none b (ends kept b a t.0).1 e

-- all are in time, where each place is
pub all_in_time : (kept : List Record) (order : List ℕ) (count : ℕ) → length order ≤ count → AreInTime kept order count → (a b : Record) → ¬ IsTooEarly kept order a b
all_in_time kept order count long h a b t =
    let p = place_at order b.number (before_in order b.number a.number (is_before order b.number a.number t.1)).0 in
    let within = slice_get_within order p.0 b.number p.1 in
    h p.0 b.number (omega arith) p.1 a b refl t

-- of the records in front of this one, none was used by b and stands after it in the order
abbrev pub NoneNeeded : List Record → List ℕ → ℕ → Record → ℕ → Type 0
NoneNeeded kept order place b i = (k : ℕ) (c : Record) → k < i → slice_get kept k ≡ Some c → ¬ (StandsBehind order place c.number × Uses b c)

-- the same of the records in the first slots
abbrev pub NoneNeededIn : SlotList → List ℕ → ℕ → Record → ℕ → Type 0
NoneNeededIn ss order place b i = (k : ℕ) (c : Record) → k < i → StandsIn ss k c → ¬ (StandsBehind order place c.number × Uses b c)

pub none_needed_more : (ss : SlotList) (order : List ℕ) (place : ℕ) (b : Record) (i : ℕ) → NoneNeededIn ss order place b i → ((a : Record) → StandsIn ss i a → ¬ (StandsBehind order place a.number × Uses b a)) → NoneNeededIn ss order place b (i + 1)
none_needed_more ss order place b i none not_it k c =
    below_more (λ p. StandsIn ss p c → ¬ (StandsBehind order place c.number × Uses b c)) i (λ p l. none p c l) (not_it c) k

pub none_ranked : (ss : SlotList) (order : List ℕ) (place : ℕ) (b : Record) (i : ℕ) → NoneNeededIn ss order place b i → NoneNeeded (held_in ss) order place b (rank ss i)
none_ranked ss order place b i none k c low there = grind (arith, rank_back, cases_lt, rank_least)

module _ (kept : List Record) (distinct : AreDistinct (numbers kept)) (order : List ℕ) (once : AreDistinct order) (place : ℕ) (b : Record) (at : slice_get order place ≡ Some b.number) where
  -- a step before which b stands too early stands after b
  pub stands_later : (c : Record) → IsTooEarly kept order c b → StandsBehind order place c.number
  stands_later c t =
      let before = is_before order b.number c.number t.1 in
      let p = place_at order c.number (before_in order b.number c.number before).1 in
      (p.0, p.1, before_places order once place p.0 b.number c.number at p.1 before)

  pub first_step : (end_place i : ℕ) (a : Record) → slice_get kept end_place ≡ Some b → slice_get kept i ≡ Some a → i < end_place → StandsBehind order place a.number → Uses b a → NoneNeeded kept order place b i → IsFirstNeeded kept order b a
  first_step end_place i a there here low behind used none = (
    (
      (stands_before kept i end_place a b here there low, used),
      before_is order b.number a.number (places_before order place behind.0 b.number a.number at behind.1 behind.2),
    ),
    λ c t.
        let p = place_at kept c (ends kept b c t.0).0 in
        elim (cases_lt p.0 i) [
          | inl l ↦ absurd (none p.0 c l p.1 (stands_later c t, t.0.1))
          | inr l ↦ elim (eq-or-lt_of_le l) [
            | inl e ↦ inl (same_value p.1 (ap (slice_get kept) (sym e) ∙ here))
            | inr m ↦ inr (stands_before kept i p.0 a c here p.1 m)
          ]
        ],
  )

  pub no_step : (end_place : ℕ) → slice_get kept end_place ≡ Some b → NoneNeeded kept order place b end_place → IsInTime kept order b.number
  no_step end_place there none c d e t =
      let same : d ≡ b = record_once kept d b distinct (ends kept d c t.0).1 (in_at kept end_place b there) e in
      let early : IsTooEarly kept order c b = subst (IsTooEarly kept order c) same t in
      let p = place_at kept c (ends kept b c early.0).0 in
      let low = place_before kept p.0 end_place c b p.1 there distinct early.0.0 in
      none p.0 c low p.1 (stands_later c early, early.0.1)

-- of the steps that depend directly on one of these first of the order, those that stand in front of it are no nearer than this
abbrev pub NoneInFront : List Record → List ℕ → ℕ → ℕ → Type 0
NoneInFront kept order count first = (place m n : ℕ) → place < count → slice_get order place ≡ Some m → StepDependsOn kept n m → IsNoFurther order place n first

pub none_in_front_more : (kept : List Record) (order : List ℕ) (i m first new : ℕ) → slice_get order i ≡ Some m → NoneInFront kept order i first → new ≤ first → ((n : ℕ) → StepDependsOn kept n m → IsNoFurther order i n new) → NoneInFront kept order (i + 1) new
none_in_front_more kept order i m first new at h less here place k n low there d = below_more (λ p. slice_get order p ≡ Some k → IsNoFurther order p n new) i
    (λ p l s own stands front. let g = h p k n l s d own stands front in omega (arith, g, less))
    (λ s. here n (subst (StepDependsOn kept n) (same_value s at) d)) place low there

pub none_in_front_all : (kept : List Record) (order : List ℕ) → AreDistinct order → (count first : ℕ) → length order ≤ count → NoneInFront kept order count first → AreInTime kept order first
none_in_front_all kept order once count first long h place n low at a b e t =
    let before = is_before order b.number a.number t.1 in
    let here : slice_get order place ≡ Some b.number = at ∙ ap Some (sym e) in
    let p = place_at order a.number (before_in order b.number a.number before).1 in
    let within = slice_get_within order p.0 a.number p.1 in
    let front = before_places order once place p.0 b.number a.number here p.1 before in
    let far = h p.0 a.number b.number (omega (arith, within, long)) p.1 (a, b, refl, refl, t.0) place here front in
    omega (arith, far, low)

-- the users so far are no nearer, and so is one more
abbrev pub AreNoFurther : List ℕ → ℕ → List ℕ → ℕ → ℕ → Type 0
AreNoFurther order place ns first least = (least ≤ first) × ((n : ℕ) → In n ns → IsNoFurther order place n least)

pub no_further_more : (order : List ℕ) (place : ℕ) (ns : List ℕ) (n first least new : ℕ) → AreNoFurther order place ns first least → new ≤ least → IsNoFurther order place n new → AreNoFurther order place (ns ++ n ∷ []) first new
no_further_more order place ns n first least new h less here = grind (arith, in_more)

-- the first that stands too early
pub is_too_early : (kept : List Record) (order : List ℕ) (place : ℕ) (a b : Record) → slice_get order place ≡ Some b.number → AreInTime kept order place → IsFirstNeeded kept order b a → IsFirstTooEarly kept order a b
is_too_early kept order place a b at time needed =
    let s = at_split order place b.number at in
    record {
      front = take place order;
      behind = s.0;
      splits = s.1;
      before = λ c d i t. let p = place_in_front order place d.number i in time p.0 d.number p.1 p.2 c d refl t;
      early = needed.0;
      first = needed.1;
    }
