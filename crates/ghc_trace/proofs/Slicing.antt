-- A slice is gathered from its end: always on with the last place that is ahead, and to the steps on which the one there depends.
use Rattle.ghc_trace.proofs.Words.{◌≡◌, ℕ, zero, suc, ◌+◌, ◌-◌, ◌<◌, ◌≤◌, ◌⊎◌, true, false, All, All-contains, nat_cmp, in_contains, List, [], ◌∷◌, ◌++◌, length, drop, refl, sym, ap, ◌∙◌, subst, inl, inr, arith, ◌↔◌, Some, None, In, in_left, in_last, in_more, AreDistinct, Record, numbers, SlotList, held_in, StandsIn, rank, rank_stands, stands_held, Picks, nothing, leave, picks_in, picks_has, DependsOn, Uses}
use Rattle.std.proofs.lemmas.List.{reverse-append, length-reverse, length-map}
use Rattle.std.proofs.lemmas.Bool.{cases_lt}
use Rattle.std.specs.Prelude.{reverse}
use Rattle.std.specs.BTreeMap.Range.{IsLtBy}
use Rattle.std.specs.Cmp.{ranks}
use Rattle.std.specs.Ordering.{MatchOrdering}
use Rattle.ghc_records.specs.Orders.{take as taken, Precedes}
use Rattle.ghc_records.proofs.SlotLemmas.{held_stands}
use Rattle.ghc_records.proofs.SlotPlaces.{one_record}
use Rattle.ghc_records.proofs.SlotRanks.{rank_less, less_rank}
use Rattle.ghc_depend.proofs.Finding.{ends}
use Rattle.ghc_depend.proofs.Causes.{stands_before, place_before}
use Rattle.ghc_depend.specs.Slices.{IsCauseOf, root, cause}
use Rattle.ghc_trace.specs.Causes.{HasInFront, HasNumbered, IsNumbered, IsSliceTold}

-- a step that stands at a place is among the records from there on
in_rest : (ss : SlotList) (far p : ℕ) (r : Record) → StandsIn ss p r → far ≤ p → In r (held_in (drop far ss))
in_rest ss zero p r at h = stands_held ss p r at
in_rest [] (suc far) zero r at h = cc
in_rest [] (suc far) (suc p) r at h = cc
in_rest (s ∷ ss) (suc far) zero r at h = absurd (omega (arith, h))
in_rest (s ∷ ss) (suc far) (suc p) r at h = in_rest ss far p r at (omega (arith, h))

-- at a place there is no step, or one before all that follow
pub step_at : (ss : SlotList) (p : ℕ) → (held_in (drop p ss) ≡ held_in (drop (suc p) ss)) ⊎ ((a : Record) × StandsIn ss p a × (held_in (drop p ss) ≡ a ∷ held_in (drop (suc p) ss)))
step_at [] zero = inl refl
step_at [] (suc p) = inl refl
step_at (None ∷ ss) zero = inl refl
step_at (Some a ∷ ss) zero = inr (a, refl, refl)
step_at (s ∷ ss) (suc p) = step_at ss p

pub opened : (ss : SlotList) (p : ℕ) (a : Record) → StandsIn ss p a → held_in (drop p ss) ≡ a ∷ held_in (drop (suc p) ss)
opened [] zero a at = cc
opened [] (suc p) a at = cc
opened (None ∷ ss) zero a at = cc
opened (Some b ∷ ss) zero a at = let same : b ≡ a = cc in ap (λ z. z ∷ held_in ss) same
opened (s ∷ ss) (suc p) a at = opened ss p a at

rest_short : (ss : SlotList) (p : ℕ) → length (held_in (drop p ss)) ≤ length (held_in ss)
rest_short ss zero = omega arith
rest_short [] (suc p) = omega arith
rest_short (None ∷ ss) (suc p) = rest_short ss p
rest_short (Some a ∷ ss) (suc p) = let h = rest_short ss p in omega (arith, h)

pub stands_within : (ss : SlotList) (p : ℕ) (a : Record) → StandsIn ss p a → p < length ss
stands_within [] zero a at = cc
stands_within [] (suc p) a at = cc
stands_within (s ∷ ss) zero a at = omega arith
stands_within (s ∷ ss) (suc p) a at = let h = stands_within ss p a at in omega (arith, h)

none_behind : (ss : SlotList) → held_in (drop (length ss) ss) ≡ []
none_behind [] = refl
none_behind (s ∷ ss) = none_behind ss

fewer_picked : {Q : Record → Type 0} (xs ys : List Record) → Picks Q xs ys → length ys ≤ length xs
fewer_picked [] ys nothing = omega arith
fewer_picked (x ∷ xs) ys (taken q p) = let h = fewer_picked xs _ p in omega (arith, h)
fewer_picked (x ∷ xs) ys (leave n p) = let h = fewer_picked xs _ p in omega (arith, h)

module _ (ss : SlotList) (distinct : AreDistinct (numbers (held_in ss))) (p q : ℕ) (a b : Record) (at : StandsIn ss p a) (there : StandsIn ss q b) where
  -- steps stand one before the other as their places do
  pub precedes_there : p < q → Precedes (held_in ss) a b
  precedes_there h = stands_before (held_in ss) (rank ss p) (rank ss q) a b (rank_stands ss p a at) (rank_stands ss q b there) (rank_less ss p q a at h)

  pub in_front_of : Precedes (held_in ss) a b → p < q
  in_front_of h = less_rank ss p q b there (place_before (held_in ss) (rank ss p) (rank ss q) a b (rank_stands ss p a at) (rank_stands ss q b there) distinct h)

-- why a step belongs to the slice: it has one of the numbers, or one that was found depends on it
abbrev Belongs : List Record → List ℕ → List Record → Record → Type 0
Belongs kept roots found a = In a.number roots ⊎ ((c : Record) × In c found × DependsOn kept c a)

-- From the place `far` on the steps of the slice are found, and told from the end; ahead are the places in front of it of those that belong to it for what was found.
pub record IsSliced (ss : SlotList) (roots ahead items : List ℕ) : Type 0 where
  pub far : ℕ
  pub found : List Record
  pub picked : Picks (IsCauseOf (held_in ss) (IsNumbered roots)) (held_in (drop far ss)) found
  pub numbered : numbers found ≡ reverse items
  pub next : (p : ℕ) → In p ahead ↔ ((p < far) × (a : Record) × StandsIn ss p a × Belongs (held_in ss) roots found a)

module _ (ss : SlotList) (distinct : AreDistinct (numbers (held_in ss))) (roots : List ℕ) where
  abbrev kept : List Record
  kept = held_in ss

  abbrev IsPart : Record → Type 0
  IsPart = IsCauseOf (held_in ss) (IsNumbered roots)

  pub slice_begin : (ahead : List ℕ) → HasNumbered ss roots [] ahead → IsSliced ss roots ahead []
  slice_begin ahead h = record {
    far = length ss;
    found = [];
    picked = subst (λ l. Picks IsPart l []) (sym (none_behind ss)) nothing;
    numbered = refl;
    next = λ p. (
      λ i. elim ((h p).0 i) [ inl never ↦ absurd never | inr a ↦ (stands_within ss p a.0 a.1, a.0, a.1, inl a.2) ],
      λ b. (h p).1 (elim b.3 [ inl r ↦ inr (b.1, b.2, r) | inr c ↦ absurd c.1 ]),
    );
  }

  -- over places where no step of the slice stands
  passed : (found : List Record) (d from : ℕ) → Picks IsPart (held_in (drop (from + d) ss)) found → ((p : ℕ) (a : Record) → from ≤ p → p < from + d → StandsIn ss p a → ¬ IsPart a)
      → Picks IsPart (held_in (drop from ss)) found
  passed found zero from h none = subst (λ k. Picks IsPart (held_in (drop k ss)) found) (let e : from + 0 ≡ from = omega arith in e) h
  passed found (suc d) from h none =
      let rest = passed found d (suc from) (subst (λ k. Picks IsPart (held_in (drop k ss)) found) (let e : from + suc d ≡ suc from + d = omega arith in e) h) (λ p a low high. none p a (omega (arith, low)) (omega (arith, high))) in
      elim (step_at ss from) [
        | inl e ↦ subst (λ l. Picks IsPart l found) (sym e) rest
        | inr a ↦ subst (λ l. Picks IsPart l found) (sym a.2) (leave (none from a.0 (omega arith) (omega arith) a.1) rest)
      ]

  module _ (ahead items : List ℕ) (s : IsSliced ss roots ahead items) where
    -- in front of each step of the slice that is not yet found, or at it, the last ahead is not
    goes_on : {a : Record} → IsPart a → (q : ℕ) → StandsIn ss q a → q < s.far → (p : ℕ) × In p ahead × (q ≤ p)
    goes_on (root {r = a} r) q at low = (q, (s.next q).1 (low, a, at, inl r), omega arith)
    goes_on (cause {a = a} {b = b} h d) q at low =
        let there = held_stands ss b (ends kept b a d).1 in
        let behind : q < there.0 = in_front_of ss distinct q there.0 a b at there.1 d.0 in
        elim (cases_lt there.0 s.far) [
          | inl l ↦ let on = goes_on h there.0 there.1 l in (on.0, on.1, (let far = on.2 in omega (arith, behind, far)))
          | inr l ↦ elim (picks_has (held_in (drop s.far ss)) s.found b s.picked (in_rest ss s.far there.0 b there.1 l)) [
            | inl i ↦ (q, (s.next q).1 (low, a, at, inr (b, i, d)), omega arith)
            | inr n ↦ absurd (n h)
          ]
        ]

    -- where nothing is ahead, all are found
    pub slice_end : ahead ≡ [] → IsSliceTold kept roots (reverse items)
    slice_end e = (
      s.found,
      passed s.found s.far 0 (subst (λ k. Picks IsPart (held_in (drop k ss)) s.found) (let same : s.far ≡ 0 + s.far = omega arith in same) s.picked)
          (λ p a low high at part. let on = goes_on part p at (omega (arith, high)) in subst (In on.0) e on.1),
      s.numbered,
    )

    module _ (rest : List ℕ) (place : ℕ) (e : ahead ≡ rest ++ place ∷ []) (below : (p : ℕ) → In p rest → p < place) (a : Record) (at : StandsIn ss place a) where
      last : (place < s.far) × (b : Record) × StandsIn ss place b × Belongs kept roots s.found b
      last = (s.next place).0 (subst (In place) (sym e) (in_last rest place))

      belongs : Belongs kept roots s.found a
      belongs = subst (Belongs kept roots s.found) (one_record ss place place last.1 a last.2 at refl) last.3

      is_part : IsPart a
      is_part = elim belongs [ inl r ↦ root r | inr c ↦ cause (picks_in (held_in (drop s.far ss)) s.found c.0 s.picked c.1).1 c.2 ]

      at_most : (p : ℕ) → In p ahead → p ≤ place
      at_most p i = elim (in_more rest place p (subst (In p) e i)) [ inl j ↦ let l = below p j in omega (arith, l) | inr same ↦ omega (arith, same) ]

      more : Picks IsPart (held_in (drop place ss)) (a ∷ s.found)
      more =
          let low = last.0 in
          let same : s.far ≡ suc place + (s.far - suc place) = omega (arith, low) in
          subst (λ l. Picks IsPart l (a ∷ s.found)) (sym (opened ss place a at)) (taken is_part
          (passed s.found (s.far - suc place) (suc place) (subst (λ k. Picks IsPart (held_in (drop k ss)) s.found) same s.picked)
          (λ p b from high there part. let on = goes_on part p there (omega (arith, high, low)) in let m = at_most on.0 on.1 in let far = on.2 in omega (arith, from, m, far))))

      -- on from the last place that is ahead
      pub slice_next : (new : List ℕ) → HasInFront ss place (Uses a) rest new → IsSliced ss roots new (items ++ a.number ∷ [])
      slice_next new h = record {
        far = place;
        found = a ∷ s.found;
        picked = more;
        numbered = ap (λ l. a.number ∷ l) s.numbered ∙ sym (reverse-append items (a.number ∷ []));
        next = λ p. (
          λ i. elim ((h p).0 i) [
            | inl j ↦
                let b = (s.next p).0 (subst (In p) (sym e) (in_left rest (place ∷ []) p j)) in
                (below p j, b.1, b.2, elim b.3 [ inl r ↦ inl r | inr c ↦ inr (c.0, inr c.1, c.2) ])
            | inr f ↦ (f.0, f.1, f.2, inr (a, inl refl, (precedes_there ss distinct p place f.1 a f.2 at f.0, f.3)))
          ],
          λ b. (h p).1 (elim b.3 [
            | inl r ↦ inl (still p b.0 b.1 b.2 (inl r))
            | inr c ↦ elim c.1 [
              | inl same ↦ inr (b.0, b.1, b.2, subst (λ z. Uses z b.1) same c.2.1)
              | inr i ↦ inl (still p b.0 b.1 b.2 (inr (c.0, i, c.2)))
            ]
          ]),
        );
      }
        where
          still : (p : ℕ) → p < place → (b : Record) → StandsIn ss p b → Belongs kept roots s.found b → In p rest
          still p low b there why = elim (in_more rest place p (subst (In p) e ((s.next p).1 ((let far = last.0 in omega (arith, low, far)), b, there, why)))) [
            | inl j ↦ j
            | inr same ↦ absurd (omega (arith, low, same))
          ]

      -- fewer are found than are kept
      pub slice_fewer : length items < length kept
      slice_fewer =
          let short = rest_short ss place in
          let fewer = fewer_picked (held_in (drop place ss)) (a ∷ s.found) more in
          let same : length (numbers s.found) ≡ length (reverse items) = ap (λ l. length l) s.numbered in
          let all = length-map s.found (λ (r : Record). r.number) in
          let turned = length-reverse items in
          omega (arith, short, fewer, same, all, turned)

-- the places in front of a place
pub all_in_front : (place : ℕ) (rest : List ℕ) → All (λ q. IsLtBy nat_cmp q place) rest → (p : ℕ) → In p rest → p < place
all_in_front place rest all p i =
    subst (λ o. MatchOrdering o (p < place) (p ≡ place) (place < p)) (All-contains (λ q. IsLtBy nat_cmp q place) rest p all (in_contains rest p i)) (ranks p place)

pub nothing_left : (ks : List ℕ) → (0 < length ks → false ≡ true) → ks ≡ []
nothing_left [] h = refl
nothing_left (k ∷ ks) h = absurd (let clash : false ≡ true = h (omega arith) in cc)
