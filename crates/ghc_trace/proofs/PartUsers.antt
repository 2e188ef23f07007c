-- The part of a goal is found from its first step on: always on with the first place that is ahead, and to the steps that depend directly on the one there.
use Rattle.ghc_trace.proofs.Words.{◌≡◌, ◌⊎◌, ℕ, zero, suc, ◌+◌, ◌-◌, ◌<◌, ◌≤◌, List, [], ◌∷◌, ◌++◌, length, drop, refl, sym, ap, ◌∙◌, subst, inl, inr, arith, ◌↔◌, Option, Some, None, nat_cmp, insert_key, take_all, VarName, GoalName, In, in_inserted, Program, Query, State, Record, numbers, AreDistinct, Replays, Before, record_once, SlotList, StandsIn, held_in, stands_held, place_of, pick_last, leave_last, nothing}
use Rattle.std.proofs.lemmas.Bool.{cases_lt}
use Rattle.ghc_flat.specs.Flat.{IsQuery}
use Rattle.ghc_records.proofs.OrderLemmas.{before_in, before_is, is_before, numbers_append, records_distinct}
use Rattle.ghc_records.proofs.Replaying.{of_query}
use Rattle.ghc_records.proofs.SlotFronts.{front_gap, front_held, front_more, front_none}
use Rattle.ghc_records.specs.Orders.{Picks, Precedes}
use Rattle.ghc_records.specs.UseIndex.{StepDependsOn}
use Rattle.ghc_records.specs.inner.Slots.{held_before}
use Rattle.ghc_depend.proofs.Picking.{stands_in_front}
use Rattle.ghc_depend.proofs.Placing.{consumed_once, front_in as placed_in, in_front, numbered_once}
use Rattle.ghc_depend.specs.Depend.{NamesFrom}
use Rattle.ghc_depend.specs.Parts.{IsOfPart, IsReachedInto}
use Rattle.ghc_depend.specs.inner.Places.{HasPlacesOfUsers}
use Rattle.ghc_trace.specs.inner.PartsCode.{ArePickedNumbers, IsPartOf, IsPutIf, IsTaken, IsTakenUp, IsTakerIn, NamesInside}
use Rattle.ghc_trace.proofs.PartSteps.{AreOfPart, maker, none_more, one_more}
use Rattle.ghc_trace.proofs.Slicing.{in_front_of, stands_within}

-- Up to the place `far`, these are the numbers of the steps of the part of the goal g, and of the asks that reach into it.
pub record IsPartSoFar (ss : SlotList) (g : GoalName) (far : ℕ) (steps asks : List ℕ) : Type 0 where
  pub of_part : AreOfPart (held_in ss) g (held_before far ss) steps
  pub reaching : ArePickedNumbers (IsReachedInto (held_in ss) g) (held_before far ss) asks

-- Ahead are the places from `far` on of the taker, and of the steps that depend directly on one of these numbers.
abbrev pub AreAhead : SlotList → Option Record → ℕ → List ℕ → List ℕ → Type 0
AreAhead ss taker far steps ahead =
    (p : ℕ) → In p ahead ↔ ((far ≤ p) × (b : Record) × StandsIn ss p b × ((taker ≡ Some b) ⊎ ((m : ℕ) × In m steps × StepDependsOn (held_in ss) b.number m)))

-- how far it is from the first that is ahead to the end
abbrev pub left_from : ℕ → List ℕ → ℕ
left_from n [] = 0
left_from n (p ∷ ps) = n - p

-- the first place that is ahead is behind us then
pub fewer_left : (n place : ℕ) (rest new : List ℕ) → place < n → ((p : ℕ) → In p new → place < p) → left_from n new < left_from n (place ∷ rest)
fewer_left n place rest [] low behind = omega (arith, low)
fewer_left n place rest (p ∷ new) low behind = let later = behind p (inl refl) in omega (arith, low, later)

-- what stands at a place, between what stands in front of it and the rest
pub split_there : (ss : SlotList) (p : ℕ) (a : Record) → StandsIn ss p a → held_in ss ≡ held_before p ss ++ a ∷ held_in (drop (suc p) ss)
split_there [] zero a at = cc
split_there [] (suc p) a at = cc
split_there (None ∷ ss) zero a at = cc
split_there (Some b ∷ ss) zero a at = let same : b ≡ a = cc in ap (λ z. z ∷ held_in ss) same
split_there (None ∷ ss) (suc p) a at = split_there ss p a at
split_there (Some b ∷ ss) (suc p) a at = ap (λ l. b ∷ l) (split_there ss p a at)

-- the step that took a goal is kept
pub taker_kept : (kept : List Record) (g : GoalName) (o : Option Record) → IsTakerIn kept g o → (r : Record) → o ≡ Some r → In r kept
taker_kept kept g None h r e = cc
taker_kept kept g (Some q) h r e = let same : q ≡ r = cc in subst (λ z. In z kept) same h.0

-- at a place stands a step, or none
stands_or_not : (ss : SlotList) (p : ℕ) → ((r : Record) → ¬ StandsIn ss p r) ⊎ ((r : Record) × StandsIn ss p r)
stands_or_not [] zero = inl (λ r at. cc)
stands_or_not [] (suc p) = inl (λ r at. cc)
stands_or_not (None ∷ ss) zero = inl (λ r at. cc)
stands_or_not (Some a ∷ ss) zero = inr (a, refl)
stands_or_not (s ∷ ss) (suc p) = stands_or_not ss p

module _ (ss : SlotList) (distinct : AreDistinct (numbers (held_in ss))) (taker : Option Record) where
  -- one begins with the taker
  pub ahead_first : (ahead : List ℕ) → ((p : ℕ) → In p ahead ↔ ((r : Record) × StandsIn ss p r × (taker ≡ Some r))) → (steps : List ℕ) → steps ≡ [] → AreAhead ss taker 0 steps ahead
  ahead_first ahead h steps none p = (
    λ i. let r = (h p).0 i in (omega arith, r.0, r.1, inl r.2),
    λ b. (h p).1 (b.1, b.2, elim b.3 [ inl e ↦ e | inr d ↦ absurd (subst (In d.0) none d.1) ]),
  )

  module _ (far : ℕ) (steps ahead rest : List ℕ) (h : AreAhead ss taker far steps ahead) (place : ℕ) (first : ahead ≡ place ∷ rest) (behind : (p : ℕ) → In p rest → place < p) where
    near : far ≤ place
    near = ((h place).0 (subst (In place) (sym first) (inl refl))).0

    least : (p : ℕ) → In p ahead → place ≤ p
    least p i = elim (subst (In p) first i) [ inl same ↦ omega (arith, same) | inr j ↦ let l = behind p j in omega (arith, l) ]

    later : (p : ℕ) → In p ahead → place + 1 ≤ p → In p rest
    later p i l = elim (subst (In p) first i) [ inl same ↦ absurd (omega (arith, same, l)) | inr j ↦ j ]

    -- where nothing was taken in
    pub ahead_still : AreAhead ss taker (place + 1) steps rest
    ahead_still p = (
      λ i. let b = (h p).0 (subst (In p) (sym first) (inr i)) in let l = behind p i in (omega (arith, l), b.1, b.2, b.3),
      λ b. let l = b.0 in let n = near in later p ((h p).1 (omega (arith, l, n), b.1, b.2, b.3)) l,
    )

    -- and where the step there was
    pub ahead_more : (a : Record) → StandsIn ss place a → (new : List ℕ) → HasPlacesOfUsers ss a.number rest new → AreAhead ss taker (place + 1) (insert_key nat_cmp steps a.number) new
    ahead_more a at new users p = (
      λ i. elim ((users p).0 i) [
        | inl j ↦
            let b = (ahead_still p).0 j in
            (b.0, b.1, b.2, elim b.3 [ inl e ↦ inl e | inr d ↦ inr (d.0, (in_inserted steps a.number d.0).1 (inl d.1), d.2) ])
        | inr b ↦
            let d = b.2 in
            let both = before_in (held_in ss) d.0 d.1 (is_before (held_in ss) d.0 d.1 d.4.0) in
            let first_one : d.0 ≡ a = record_once (held_in ss) d.0 a distinct both.0 (stands_held ss place a at) d.2 in
            let second : d.1 ≡ b.0 = record_once (held_in ss) d.1 b.0 distinct both.1 (stands_held ss p b.0 b.1) d.3 in
            let l = in_front_of ss distinct place p a b.0 at b.1 (subst (λ z. Precedes (held_in ss) z b.0) first_one (subst (λ z. Precedes (held_in ss) d.0 z) second d.4.0)) in
            (omega (arith, l), b.0, b.1, inr (a.number, (in_inserted steps a.number a.number).1 (inr refl), d))
      ],
      λ b. (users p).1 (elim b.3 [
        | inl e ↦ inl ((ahead_still p).1 (b.0, b.1, b.2, inl e))
        | inr d ↦ elim ((in_inserted steps a.number d.0).0 d.1) [
          | inl i ↦ inl ((ahead_still p).1 (b.0, b.1, b.2, inr (d.0, i, d.2)))
          | inr same ↦ inr (b.1, b.2, subst (StepDependsOn (held_in ss) b.1.number) same d.2)
        ]
      ]),
    )

    -- on from the first place that is ahead
    pub next_ahead : (g : GoalName) (a : Record) → StandsIn ss place a → (new next : List ℕ) → IsTaken ss g a steps new rest next → AreAhead ss taker (place + 1) new next
    next_ahead g a at new next taken = elim taken [
      | inl y ↦ subst (λ l. AreAhead ss taker (place + 1) l next) (sym y.1) (ahead_more a at next y.2)
      | inr n ↦ subst (λ l. AreAhead ss taker (place + 1) l next) (sym n.1) (subst (AreAhead ss taker (place + 1) steps) (sym n.2) ahead_still)
    ]

    pub next_behind : (g : GoalName) (a : Record) → StandsIn ss place a → (new next : List ℕ) → IsTaken ss g a steps new rest next → (p : ℕ) → In p next → place < p
    next_behind g a at new next taken p i = let b = (next_ahead g a at new next taken p).0 i in let l = b.0 in omega (arith, l)

  -- what is known of a run
  module _ (g : GoalName) (P : Program) (query : Query) (t : State) (asked : IsQuery P query) (replay : Replays P query (held_in ss) t)
      (took : IsTakerIn (held_in ss) g taker) where
    -- a step that took the goal is the taker
    is_taker : (r : Record) → In r (held_in ss) → r.goal ≡ Some g → taker ≡ Some r
    is_taker r i e = by_taker taker took
      where
        by_taker : (o : Option Record) → IsTakerIn (held_in ss) g o → o ≡ Some r
        by_taker None none = absurd (none r i e)
        by_taker (Some q) h = ap Some (consumed_once P query (held_in ss) t replay r q g i h.0 e h.1)

    -- what a step names, one in front of it made
    named_before : (r q : Record) (x : VarName) → In r (held_in ss) → In q (held_in ss) → NamesFrom r q x → Before (held_in ss) q r
    named_before r q x i j n =
        let p = place_of P query (held_in ss) t replay r i in
        elim (replay.2 p.before p.behind r p.split x n.0) [
          | inl known ↦
              let zero_step : x.step ≡ 0 = of_query P query x asked known in
              let number = n.1.0 in
              let positive = (replay.0.0 q j).0 in
              absurd (omega (arith, zero_step, number, positive))
          | inr m ↦
              let one : m.0 ≡ q = numbered_once P query (held_in ss) t replay q m.0 j (placed_in P query (held_in ss) t replay r m.0 p m.1) (sym n.1.0 ∙ m.2.0) in
              subst (λ z. Before (held_in ss) z r) one (in_front P query (held_in ss) t replay r m.0 p m.1)
        ]

    module _ (place : ℕ) (a : Record) (at : StandsIn ss place a) (steps asks : List ℕ) (h : IsPartSoFar ss g place steps asks) where
      there : In a (held_in ss)
      there = stands_held ss place a at

      -- an earlier step of one of the numbers is of the part
      of_number : (n : ℕ) → In n steps → (q : Record) × In q (held_in ss) × (q.number ≡ n) × IsOfPart (held_in ss) g q
      of_number n i = let q = (h.of_part n).0 i in (q.0, front_held ss place q.0 q.1.0, q.1.1, q.2)

      -- and what stands before the step and is of the part has one
      numbered : (q : Record) → Before (held_in ss) q a → IsOfPart (held_in ss) g q → In q.number steps
      numbered q before of =
          let front = stands_in_front (held_in ss) (held_before place ss) (held_in (drop (suc place) ss)) a q (records_distinct (held_in ss) distinct) (split_there ss place a at) before in
          (h.of_part q.number).1 (q, (front, refl), of)

      -- it reaches in where it names what one of the numbers made
      pub reaches : NamesInside (held_in ss) steps a ↔ IsReachedInto (held_in ss) g a
      reaches = (
        λ (x, i, (other, (q, j, number, makes))).
            let p = of_number q.number number in
            let one = record_once (held_in ss) p.0 q distinct p.1 j p.2 in
            (q, x, j, subst (IsOfPart (held_in ss) g) one p.3, ((i, other), makes)),
        λ (q, x, j, of, names). (x, names.0.0, (names.0.1, (q, j, numbered q (named_before a q x there j names) of, names.1))),
      )

      -- a step that is taken up, or reaches in, is the taker or depends directly on one of the numbers
      taken_ahead : IsTakenUp g steps a → (taker ≡ Some a) ⊎ ((m : ℕ) × In m steps × StepDependsOn (held_in ss) a.number m)
      taken_ahead (k, e, inl same) = inl (is_taker a there (e ∙ ap Some same))
      taken_ahead (k, e, inr i) =
          let q = of_number k.step i in
          let m = maker P query (held_in ss) t replay a k there e q.0 q.1 (sym q.2) in
          inr (k.step, i, (q.0, a, q.2, refl, (before_is (held_in ss) q.0 a m.1, inl (k, e, m.0))))

      reached_ahead : IsReachedInto (held_in ss) g a → (m : ℕ) × In m steps × StepDependsOn (held_in ss) a.number m
      reached_ahead (q, x, j, of, names) =
          let before = named_before a q x there j names in
          (q.number, numbered q before of, (q, a, refl, refl, (before_is (held_in ss) q a before, inr (inr (x, names)))))

      more : held_before (place + 1) ss ≡ held_before place ss ++ a ∷ []
      more = front_more ss place a at

      split : held_in ss ≡ held_before place ss ++ a ∷ held_in (drop (suc place) ss)
      split = split_there ss place a at

      -- the step is looked at
      pub looked_at : (new now : List ℕ) → IsPutIf (NamesInside (held_in ss) steps a) a.number asks now
          → (IsTakenUp g steps a × (new ≡ insert_key nat_cmp steps a.number)) ⊎ ((¬ IsTakenUp g steps a) × (new ≡ steps)) → IsPartSoFar ss g (place + 1) new now
      looked_at new now put took_in = record {
        of_part = subst (λ l. AreOfPart (held_in ss) g l new) (sym more) (elim took_in [
          | inl y ↦ subst (AreOfPart (held_in ss) g (held_before place ss ++ a ∷ [])) (sym y.1) (one_more P query (held_in ss) t replay g (held_before place ss) _ a split steps h.of_part y.0)
          | inr n ↦ subst (AreOfPart (held_in ss) g (held_before place ss ++ a ∷ [])) (sym n.1) (none_more P query (held_in ss) t replay g (held_before place ss) _ a split steps h.of_part n.0)
        ]);
        reaching = subst (λ (l : List Record). ArePickedNumbers (IsReachedInto (held_in ss) g) l now) (sym more) (elim put [
          | inl y ↦ (
            h.reaching.0 ++ a ∷ [],
            pick_last (held_before place ss) h.reaching.0 a h.reaching.1 (reaches.0 y.0),
            numbers_append h.reaching.0 (a ∷ []) ∙ ap (λ l. l ++ a.number ∷ []) h.reaching.2 ∙ sym y.1,
          )
          | inr n ↦ (h.reaching.0, leave_last (held_before place ss) h.reaching.0 a h.reaching.1 (λ r. n.0 (reaches.1 r)), h.reaching.2 ∙ sym n.1)
        ]);
      }

    module _ (far : ℕ) (steps asks ahead : List ℕ) (h : AreAhead ss taker far steps ahead) (end : ℕ) (least : (p : ℕ) → In p ahead → end ≤ p) where
      -- over places where no step of the part stands, and none that reaches in
      pub passed : (d : ℕ) → far + d ≤ end → far + d ≤ length ss → IsPartSoFar ss g far steps asks → IsPartSoFar ss g (far + d) steps asks
      passed zero high long so_far = subst (λ k. IsPartSoFar ss g k steps asks) (let e : far ≡ far + 0 = omega arith in e) so_far
      passed (suc d) high long so_far =
          let before = passed d (omega (arith, high)) (omega (arith, long)) so_far in
          subst (λ k. IsPartSoFar ss g k steps asks) (let e : (far + d) + 1 ≡ far + suc d = omega arith in e) (elim (stands_or_not ss (far + d)) [
            | inl none ↦
                let same = front_gap ss (far + d) (omega (arith, long)) none in
                record {
                  of_part = subst (λ l. AreOfPart (held_in ss) g l steps) (sym same) before.of_part;
                  reaching = subst (λ (l : List Record). ArePickedNumbers (IsReachedInto (held_in ss) g) l asks) (sym same) before.reaching;
                }
            | inr b ↦
                let none_ahead : ((taker ≡ Some b.0) ⊎ ((m : ℕ) × In m steps × StepDependsOn (held_in ss) b.0.number m)) → ⊥ =
                λ why. let l = least (far + d) ((h (far + d)).1 (omega arith, b.0, b.1, why)) in omega (arith, l, high) in
                looked_at (far + d) b.0 b.1 steps asks before steps asks
                (inr (λ n. none_ahead (inr (reached_ahead (far + d) b.0 b.1 steps asks before ((reaches (far + d) b.0 b.1 steps asks before).0 n))), refl))
                (inr (λ up. none_ahead (taken_ahead (far + d) b.0 b.1 steps asks before up), refl))
          ])

      pub passed_to : far ≤ end → end ≤ length ss → IsPartSoFar ss g far steps asks → IsPartSoFar ss g end steps asks
      passed_to low long so_far =
          let e : far + (end - far) ≡ end = omega (arith, low) in
          subst (λ k. IsPartSoFar ss g k steps asks) e (passed (end - far) (omega (arith, low)) (omega (arith, low, long)) so_far)

    -- and so the part is found up to behind the first place that is ahead
    pub next_part : (far : ℕ) (steps asks ahead rest : List ℕ) → AreAhead ss taker far steps ahead → (place : ℕ) → ahead ≡ place ∷ rest → ((p : ℕ) → In p rest → place < p)
        → IsPartSoFar ss g far steps asks → (a : Record) → StandsIn ss place a → (new now next : List ℕ) → IsPutIf (NamesInside (held_in ss) steps a) a.number asks now
        → IsTaken ss g a steps new rest next → IsPartSoFar ss g (place + 1) new now
    next_part far steps asks ahead rest h place first behind so_far a at new now next put taken =
        let within = stands_within ss place a at in
        let there = passed_to far steps asks ahead h place (least far steps ahead rest h place first behind) (near far steps ahead rest h place first behind) (omega (arith, within)) so_far in
        looked_at place a at steps asks there new now put (elim taken [ inl y ↦ inl (y.0, y.1) | inr n ↦ inr (n.0, n.1) ])

    -- in front of the first place nothing is found
    pub so_far_first : (steps asks : List ℕ) → steps ≡ [] → asks ≡ [] → IsPartSoFar ss g 0 steps asks
    so_far_first steps asks none no_asks = record {
      of_part = λ n. (λ i. absurd (subst (In n) none i), λ q. absurd (subst (In q.0) (front_none ss) q.1.0));
      reaching = ([], subst (λ (l : List Record). Picks (IsReachedInto (held_in ss) g) l []) (sym (front_none ss)) nothing, sym no_asks);
    }

    -- where nothing is ahead, all is found
    pub all_found : (far : ℕ) (steps asks ahead : List ℕ) → AreAhead ss taker far steps ahead → ahead ≡ [] → IsPartSoFar ss g far steps asks → IsPartOf (held_in ss) g steps asks
    all_found far steps asks ahead h none so_far =
        let nothing_ahead : (p : ℕ) → In p ahead → length ss ≤ p = λ p i. absurd (subst (In p) none i) in
        elim (cases_lt far (length ss)) [
          | inl within ↦ whole (length ss) (omega arith) steps asks (passed_to far steps asks ahead h (length ss) nothing_ahead (omega (arith, within)) (omega arith) so_far)
          | inr beyond ↦ whole far beyond steps asks so_far
        ]
      where
        whole : (k : ℕ) → length ss ≤ k → (ns ms : List ℕ) → IsPartSoFar ss g k ns ms → IsPartOf (held_in ss) g ns ms
        whole k high ns ms so = let all : held_before k ss ≡ held_in ss = ap held_in (take_all k ss high) in record {
          numbered = subst (λ l. AreOfPart (held_in ss) g l ns) all so.of_part;
          reaching = subst (λ (l : List Record). ArePickedNumbers (IsReachedInto (held_in ss) g) l ms) all so.reaching;
        }
