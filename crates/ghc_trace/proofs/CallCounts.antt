-- How many goals have a property, and the sums of weights.
use Rattle.ghc_trace.proofs.Words.{◌≡◌, ℕ, zero, suc, ◌+◌, ◌<◌, ◌≤◌, Bool, true, false, List, [], ◌∷◌, ◌++◌, length, map, get_or, take, drop, refl, sym, ap, ◌∙◌, subst, inl, inr, arith, ◌⊎◌, ◌↔◌, Some, None, slice_get, slice_get_within, GoalName, In, in_either, in_left, in_right, AreDistinct, Option, cases_eq, same_value}
use Rattle.std.proofs.lemmas.List.{get_or-take, length-append, length-map, length-set, length-take-le, set-append_left, take-append-drop, take_all, take_at}
use Rattle.std.proofs.lemmas.List.Sums.{get_or-le-sum_by, sum_by-cons, sum_by-set, sum_by_more}
use Rattle.std.proofs.lemmas.Option.{get_or_from_slice_get, slice_get-get_or}
use Rattle.std.specs.Prelude.{IfSome}
use Rattle.ghc_term.proofs.Placing.{set_other, set_same}
use Rattle.std.specs.List.{sum, slice_set}
use Rattle.ghc_records.proofs.PickLemmas.{no_longer}
use Rattle.ghc_trace.specs.Blaming.{AreSoMany}
use Rattle.ghc_trace.specs.declared.slice_calls.Call.{Call}
use Rattle.ghc_trace.specs.inner.BlameCode.{AddsToMaker, AreWeightsWithin, IsOpenAt, StandsAtPlace, count_open, one_of}

distinct_join : {X : Type 0} (xs ys : List X) → AreDistinct xs → AreDistinct ys → ((x : X) → In x xs → ¬ In x ys) → AreDistinct (xs ++ ys)
distinct_join [] ys d e apart = e
distinct_join (x ∷ xs) ys d e apart = (
  (λ i. elim (in_either xs ys x i) [ inl j ↦ d.0 j | inr j ↦ apart x (inl refl) j ]),
  distinct_join xs ys d.1 e (λ z i. apart z (inr i)),
)

-- Goals of the same property are as many.
pub so_many_as : (Q R : GoalName → Type 0) (n : ℕ) → ((g : GoalName) → Q g ↔ R g) → AreSoMany Q n → AreSoMany R n
so_many_as Q R n same (gs, distinct, all, long) = (gs, distinct, (λ g. ((λ i. (same g).0 ((all g).0 i)), (λ r. (all g).1 ((same g).1 r)))), long)

-- A property of one goal alone has the number one.
pub one_alone : (Q : GoalName → Type 0) (g : GoalName) → Q g → ((h : GoalName) → Q h → h ≡ g) → AreSoMany Q 1
one_alone Q g holds only = (g ∷ [], ((λ i. i), tt), (λ h. ((λ i. elim i [ inl e ↦ subst Q (sym e) holds | inr none ↦ absurd none ]), (λ q. inl (only h q)))), refl)

-- The numbers of two properties add up, where no goal has both.
pub so_many_both : (Q R S : GoalName → Type 0) (m n : ℕ) → AreSoMany Q m → AreSoMany R n → ((g : GoalName) → Q g → ¬ R g) → ((g : GoalName) → S g ↔ (Q g ⊎ R g)) → AreSoMany S (m + n)
so_many_both Q R S m n (xs, d, all, long) (ys, e, each, many) apart either = (
  xs ++ ys,
  distinct_join xs ys d e (λ g i j. apart g ((all g).0 i) ((each g).0 j)),
  λ g. (
    (λ i. (either g).1 (elim (in_either xs ys g i) [ inl j ↦ inl ((all g).0 j) | inr j ↦ inr ((each g).0 j) ])),
    (λ s. elim ((either g).0 s) [ inl q ↦ in_left xs ys g ((all g).1 q) | inr r ↦ in_right xs ys g ((each g).1 r) ]),
  ),
  length-append xs ys ∙ ap (λ k. k + length ys) long ∙ ap (λ k. m + k) many,
)

-- A property has one number.
pub so_many_once : (Q : GoalName → Type 0) (m n : ℕ) → AreSoMany Q m → AreSoMany Q n → m ≡ n
so_many_once Q m n (xs, d, all, long) (ys, e, each, many) =
    let one = no_longer xs ys d (λ g i. (each g).1 ((all g).0 i)) in
    let other = no_longer ys xs e (λ g i. (all g).1 ((each g).0 i)) in
    omega (arith, one, other, long, many)

-- the names of the calls that are in question
picked : List Call → List Bool → List GoalName
picked [] doubts = []
picked (c ∷ calls) [] = []
picked (c ∷ calls) (true ∷ doubts) = c.name ∷ picked calls doubts
picked (c ∷ calls) (false ∷ doubts) = picked calls doubts

abbrev IsPicked : List Call → List Bool → GoalName → Type 0
IsPicked calls doubts g = (i : ℕ) × (c : Call) × StandsAtPlace calls i c × IsOpenAt doubts i × (c.name ≡ g)

picked_long : (calls : List Call) (doubts : List Bool) → length doubts ≡ length calls → length (picked calls doubts) ≡ count_open doubts
unfolding picked
picked_long [] [] e = refl
picked_long [] (b ∷ doubts) e = absurd (omega (arith, e))
picked_long (c ∷ calls) [] e = absurd (omega (arith, e))
picked_long (c ∷ calls) (true ∷ doubts) e =
    let rest = picked_long calls doubts (omega (arith, e)) in
    let more = sum_by-cons (λ (x : ℕ). x) 1 (map one_of doubts) in
    omega (arith, rest, more)
picked_long (c ∷ calls) (false ∷ doubts) e =
    let rest = picked_long calls doubts (omega (arith, e)) in
    let more = sum_by-cons (λ (x : ℕ). x) 0 (map one_of doubts) in
    omega (arith, rest, more)

picked_in : (calls : List Call) (doubts : List Bool) (g : GoalName) → In g (picked calls doubts) → IsPicked calls doubts g
unfolding picked
picked_in [] doubts g i = absurd i
picked_in (c ∷ calls) [] g i = absurd i
picked_in (c ∷ calls) (true ∷ doubts) g (inl e) = (0, c, refl, refl, sym e)
picked_in (c ∷ calls) (true ∷ doubts) g (inr i) = let q = picked_in calls doubts g i in (suc q.0, q.1, q.2, q.3, q.4)
picked_in (c ∷ calls) (false ∷ doubts) g i = let q = picked_in calls doubts g i in (suc q.0, q.1, q.2, q.3, q.4)

in_picked : (calls : List Call) (doubts : List Bool) (i : ℕ) (c : Call) → StandsAtPlace calls i c → IsOpenAt doubts i → In c.name (picked calls doubts)
unfolding picked
in_picked [] doubts i c at holds = let clash : None ≡ Some c = at in cc
in_picked (d ∷ calls) [] i c at holds = let clash : None ≡ Some true = holds in cc
in_picked (d ∷ calls) (true ∷ doubts) zero c at holds = let same : d ≡ c = cc in inl (ap (λ (z : Call). z.name) (sym same))
in_picked (d ∷ calls) (false ∷ doubts) zero c at holds = let clash : false ≡ true = cc in cc
in_picked (d ∷ calls) (true ∷ doubts) (suc i) c at holds = inr (in_picked calls doubts i c at holds)
in_picked (d ∷ calls) (false ∷ doubts) (suc i) c at holds = in_picked calls doubts i c at holds

abbrev HaveOnePlace : List Call → Type 0
HaveOnePlace calls = (i j : ℕ) (c d : Call) → StandsAtPlace calls i c → StandsAtPlace calls j d → c.name ≡ d.name → i ≡ j

picked_distinct : (calls : List Call) (doubts : List Bool) → HaveOnePlace calls → AreDistinct (picked calls doubts)
unfolding picked
picked_distinct [] doubts once = tt
picked_distinct (c ∷ calls) [] once = tt
picked_distinct (c ∷ calls) (true ∷ doubts) once = (
  (λ i. let q = picked_in calls doubts c.name i in let clash = once 0 (suc q.0) c q.1 refl q.2 (sym q.4) in absurd (omega (arith, clash))),
  picked_distinct calls doubts (λ i j d e at there same. let both = once (suc i) (suc j) d e at there same in omega (arith, both)),
)
picked_distinct (c ∷ calls) (false ∷ doubts) once = picked_distinct calls doubts (λ i j d e at there same. let both = once (suc i) (suc j) d e at there same in omega (arith, both))

pub so_many_open : (calls : List Call) (doubts : List Bool) → HaveOnePlace calls → length doubts ≡ length calls → AreSoMany (IsPicked calls doubts) (count_open doubts)
so_many_open calls doubts once long = (
  picked calls doubts,
  picked_distinct calls doubts once,
  (λ g. ((λ i. picked_in calls doubts g i), (λ (i, c, at, holds, same). subst (λ z. In z (picked calls doubts)) same (in_picked calls doubts i c at holds)))),
  picked_long calls doubts long,
)

-- A call in question weighs one at first, and another one nothing.
pub one_at : (doubts : List Bool) (i : ℕ) (b : Bool) → slice_get doubts i ≡ Some b → slice_get (map one_of doubts) i ≡ Some (one_of b)
one_at [] i b e = let clash : None ≡ Some b = e in cc
one_at (a ∷ doubts) zero b e = let same : a ≡ b = cc in ap (λ z. Some (one_of z)) same
one_at (a ∷ doubts) (suc i) b e = one_at doubts i b e

-- What one weight in front gains, the sum in front gains.
pub moved_sum : (weights : List ℕ) (place p y : ℕ) → p < place → place ≤ length weights
    → sum (take place (slice_set weights p y)) + get_or weights p 0 ≡ sum (take place weights) + y
moved_sum weights place p y low within =
    let front = take place weights in
    let back = drop place weights in
    let whole : weights ≡ front ++ back = sym (take-append-drop place weights) in
    let long : length front ≡ place = length-take-le place weights within in
    let set_front : slice_set weights p y ≡ slice_set front p y ++ back = ap (λ l. slice_set l p y) whole ∙ set-append_left front back p y (omega (arith, low, long)) in
    let taken : take place (slice_set weights p y) ≡ slice_set front p y = ap (take place) set_front ∙ take_at (slice_set front p y) back place (length-set front p y ∙ long) in
    let moved = sum_by-set (λ (x : ℕ). x) front p y 0 (omega (arith, low, long)) in
    let value : get_or front p 0 ≡ get_or weights p 0 = get_or-take place weights p 0 low in
    let both : sum (take place (slice_set weights p y)) ≡ sum (slice_set front p y) = ap sum taken in
    omega (arith, moved, value, both)

-- No more calls are in question than there are.
count_small : (doubts : List Bool) → count_open doubts ≤ length doubts
count_small [] = omega arith
count_small (true ∷ doubts) = let rest = count_small doubts in let more = sum_by-cons (λ (x : ℕ). x) 1 (map one_of doubts) in omega (arith, rest, more)
count_small (false ∷ doubts) = let rest = count_small doubts in let more = sum_by-cons (λ (x : ℕ). x) 0 (map one_of doubts) in omega (arith, rest, more)

-- A weight is at most the sum of all.
in_sum : (weights : List ℕ) (i w : ℕ) → slice_get weights i ≡ Some w → w ≤ sum weights
in_sum weights i w at =
    let low = slice_get_within weights i w at in
    let most = get_or-le-sum_by (λ (x : ℕ). x) weights i 0 low in
    let value : get_or weights i 0 ≡ w = get_or_from_slice_get weights i w 0 at in
    omega (arith, most, value)

pub ones_within : (doubts : List Bool) → AreWeightsWithin doubts (map one_of doubts)
ones_within doubts = record {
  long = length-map doubts one_of;
  within = λ i w at. in_sum (map one_of doubts) i w at;
  some = λ i w holds at. let one : 1 ≡ w = same_value (one_at doubts i true holds) at in omega (arith, one);
}

pub ones_sum : (doubts : List Bool) (k : ℕ) → length doubts ≤ k → sum (take k (map one_of doubts)) ≤ count_open doubts
ones_sum doubts k high =
    let long : length (map one_of doubts) ≡ length doubts = length-map doubts one_of in
    let whole : sum (take k (map one_of doubts)) ≡ sum (map one_of doubts) = ap sum (take_all k (map one_of doubts) (omega (arith, high, long))) in
    omega (arith, whole)

module _ (doubts : List Bool) (weights : List ℕ) (h : AreWeightsWithin doubts weights) (j : ℕ) (short : j < length doubts) (bound : sum (take (j + 1) weights) ≤ count_open doubts) where
  one_sum : sum (take (j + 1) weights) ≡ sum (take j weights) + get_or weights j 0
  one_sum = let long = h.long in sum_by_more (λ (x : ℕ). x) weights j 0 (omega (arith, short, long))

  front_weight : (p : ℕ) → p < j → get_or weights p 0 ≤ sum (take j weights)
  front_weight p low =
      let long = h.long in
      let taken : length (take j weights) ≡ j = length-take-le j weights (omega (arith, short, long)) in
      let most = get_or-le-sum_by (λ (x : ℕ). x) (take j weights) p 0 (omega (arith, low, taken)) in
      let value : get_or (take j weights) p 0 ≡ get_or weights p 0 = get_or-take j weights p 0 low in
      omega (arith, most, value)

  -- The sum of those in front is no greater.
  pub less_sum : sum (take j weights) ≤ count_open doubts
  less_sum = let one = one_sum in omega (arith, bound, one)

  -- Two weights together are no more than there are calls.
  pub both_fit : (p : ℕ) → p < j → get_or weights p 0 + get_or weights j 0 ≤ length weights
  both_fit p low =
      let one = one_sum in
      let front = front_weight p low in
      let small = count_small doubts in
      let long = h.long in
      omega (arith, one, front, small, long, bound)

  -- The weight goes to the call at the place p.
  module _ (p : ℕ) (low : p < j) where
    abbrev more : ℕ
    more = get_or weights p 0 + get_or weights j 0

    is_more : (i w : ℕ) → i ≡ p → slice_get (slice_set weights p more) i ≡ Some w → more ≡ w
    is_more i w here at =
        let long = h.long in
        same_value (set_same weights p more (omega (arith, short, long, low))) (subst (λ z. slice_get (slice_set weights p more) z ≡ Some w) here at)

    pub moved_within : AreWeightsWithin doubts (slice_set weights p more)
    moved_within = record {
      long = length-set weights p more ∙ h.long;
      within = λ i w at. elim (cases_eq i p) [
        | inl here ↦
            let value = is_more i w here at in
            let one = one_sum in
            let front = front_weight p low in
            omega (arith, value, one, front, bound)
        | inr other ↦ h.within i w (sym (set_other weights p i more other) ∙ at)
      ];
      some = λ i w holds at. elim (cases_eq i p) [
        | inl here ↦
            let value = is_more i w here at in
            let long = h.long in
            let old : slice_get weights i ≡ Some (get_or weights i 0) = slice_get-get_or weights i 0 (omega (arith, short, long, low, here)) in
            let least = h.some i (get_or weights i 0) holds old in
            let place = ap (λ k. get_or weights k 0) here in
            omega (arith, value, least, place)
        | inr other ↦ h.some i w holds (sym (set_other weights p i more other) ∙ at)
      ];
    }

    pub moved_bound : sum (take j (slice_set weights p more)) ≤ count_open doubts
    moved_bound =
        let long = h.long in
        let moved = moved_sum weights j p more low (omega (arith, short, long)) in
        let one = one_sum in
        omega (arith, moved, one, bound)

  -- The weight goes to the maker, if there is one: all stays within the bounds.
  pub added_within : (o : Option ℕ) (new : List ℕ) → IfSome o (λ p. p < j) → AddsToMaker o j weights new → AreWeightsWithin doubts new × (sum (take j new) ≤ count_open doubts)
  added_within None new low is = (subst (AreWeightsWithin doubts) (sym is) h, subst (λ (l : List ℕ). sum (take j l) ≤ count_open doubts) (sym is) less_sum)
  added_within (Some p) new low is = (subst (AreWeightsWithin doubts) (sym is) (moved_within p low), subst (λ (l : List ℕ). sum (take j l) ≤ count_open doubts) (sym is) (moved_bound p low))
