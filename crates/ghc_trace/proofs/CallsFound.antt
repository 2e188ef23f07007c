-- The calls of a slice, found one after another: each stands after the one whose step made it.
use Rattle.ghc_trace.proofs.Words.{◌≡◌, ℕ, List, [], ◌∷◌, ◌++◌, length, refl, sym, ap, ◌∙◌, subst, inl, inr, arith, ◌⊎◌, ◌↔◌, Option, Some, None, slice_get_within, GoalName, Goal, In, in_left, in_right, in_last, in_more, Program, Query, State, Record, MakesGoal, Replays, Before, AreDistinct, same_value}
use Rattle.std.specs.FinMap as finite
use Rattle.ghc_flat.proofs.DistinctLemmas.{distinct_split}
use Rattle.ghc_records.proofs.OrderLemmas.{before_once, records_distinct}
use Rattle.ghc_depend.proofs.Picking.{before_front}
use Rattle.ghc_depend.proofs.Placing.{consumed_once, numbered_once}
use Rattle.ghc_trace.proofs.CallMakers.{standing_made, standing_untaken, taken_made}
use Rattle.ghc_trace.proofs.CallPlaces.{at_last, at_left, at_more}
use Rattle.ghc_trace.specs.Blaming.{IsCall, IsCallOf, IsCallTaken}
use Rattle.ghc_trace.specs.declared.slice_calls.Call.{Call}
use Rattle.ghc_trace.specs.inner.BlameCode.{AddsCall, AddsTaken, AreCallsBy, AreCallsOf, IsAskedAbout, IsMadeFor, IsPlaceTakenBy, IsTaker, StandsAtPlace, TakesCall}

-- This is the place of the call whose step made g, if the step of one of these did.
abbrev pub IsMakerOf : List Record → List Call → GoalName → Option ℕ → Type 0
IsMakerOf rs calls g maker = (p : ℕ) → (maker ≡ Some p) ↔ ((d : Call) × StandsAtPlace calls p d × IsMadeFor rs d.name g)

-- No steps took no calls.
pub none_called : (rs : List Record) → AreCallsBy rs (IsCallTaken []) []
none_called rs = record {
  all = λ g. ((λ (r, b, i, e, c, call_b). absurd i), (λ (i, c, at, e). let clash : None ≡ Some c = at in cc));
  once = λ i j c d at there same. let clash : None ≡ Some c = at in cc;
  before = λ i p c at e. let clash : None ≡ Some c = at in cc;
  makers = λ i p c at. let clash : None ≡ Some c = at in cc;
  takers = λ i c at. let clash : None ≡ Some c = at in cc;
}

module _ (rs : List Record) (named : GoalName → Type 0) (calls : List Call) (h : AreCallsBy rs named calls) where
  pub as_named : (other : GoalName → Type 0) → ((k : GoalName) → named k ↔ other k) → AreCallsBy rs other calls
  as_named other same = record {
    all = λ k. ((λ m. (h.all k).0 ((same k).1 m)), (λ q. (same k).0 ((h.all k).1 q)));
    once = h.once;
    before = h.before;
    makers = h.makers;
    takers = h.takers;
  }

  module _ (g : GoalName) (maker : Option ℕ) (taker : Option ℕ) (new : ¬ named g) (made : IsMakerOf rs calls g maker) (took : IsTaker rs g taker)
      (unmade : (k : GoalName) → named k ⊎ (k ≡ g) → ¬ IsMadeFor rs g k) where
    abbrev c : Call
    c = record { name = g; maker = maker; taker = taker }

    named_at : (i : ℕ) (d : Call) → StandsAtPlace calls i d → named d.name
    named_at i d at = (h.all d.name).1 (i, d, at, refl)

    not_named : (i : ℕ) (d : Call) → StandsAtPlace calls i d → ¬ (d.name ≡ g)
    not_named i d at same = new (subst named same (named_at i d at))

    name_of : (d : Call) → d ≡ c → d.name ≡ g
    name_of d same = ap (λ (z : Call). z.name) same

    -- The new call made none of these: makers stand where they stood.
    made_there : (k : GoalName) → named k ⊎ (k ≡ g) → (p : ℕ) → ((d : Call) × StandsAtPlace (calls ++ c ∷ []) p d × IsMadeFor rs d.name k) → (d : Call) × StandsAtPlace calls p d × IsMadeFor rs d.name k
    made_there k is p (d, at, made_for) = elim (at_more calls c d p at) [
      | inl a ↦ (d, a, made_for)
      | inr q ↦ absurd (unmade k is (subst (λ z. IsMadeFor rs z k) (name_of d q.1) made_for))
    ]

    made_here : (k : GoalName) (p : ℕ) → ((d : Call) × StandsAtPlace calls p d × IsMadeFor rs d.name k) → (d : Call) × StandsAtPlace (calls ++ c ∷ []) p d × IsMadeFor rs d.name k
    made_here k p (d, at, made_for) = (d, at_left calls c p d at, made_for)

    -- One call more stands at the end.
    pub one_call : AreCallsBy rs (λ k. named k ⊎ (k ≡ g)) (calls ++ c ∷ [])
    one_call = record {
      all = λ k. (
        (λ is. elim is [
          | inl n ↦ let q = (h.all k).0 n in (q.0, q.1, at_left calls c q.0 q.1 q.2, q.3)
          | inr e ↦ (length calls, c, at_last calls c, sym e)
        ]),
        (λ (i, d, at, e). elim (at_more calls c d i at) [
          | inl a ↦ inl ((h.all k).1 (i, d, a, e))
          | inr q ↦ inr (sym e ∙ name_of d q.1)
        ]),
      );
      once = λ i j d e at there same. elim (at_more calls c d i at) [
        | inl a ↦ elim (at_more calls c e j there) [
          | inl b ↦ h.once i j d e a b same
          | inr q ↦ absurd (not_named i d a (same ∙ name_of e q.1))
        ]
        | inr q ↦ elim (at_more calls c e j there) [
          | inl b ↦ absurd (not_named j e b (sym same ∙ name_of d q.1))
          | inr p ↦ q.0 ∙ sym p.0
        ]
      ];
      before = λ i p d at e. elim (at_more calls c d i at) [
        | inl a ↦ h.before i p d a e
        | inr q ↦
            let there = (made p).0 (ap (λ (z : Call). z.maker) (sym q.1) ∙ e) in
            let low = slice_get_within calls p there.0 there.1 in
            let here = q.0 in
            omega (arith, low, here)
      ];
      makers = λ i p d at. elim (at_more calls c d i at) [
        | inl a ↦ (
          (λ e. made_here d.name p ((h.makers i p d a).0 e)),
          (λ w. (h.makers i p d a).1 (made_there d.name (inl (named_at i d a)) p w)),
        )
        | inr q ↦ subst (λ (z : Call). (z.maker ≡ Some p) ↔ ((x : Call) × StandsAtPlace (calls ++ c ∷ []) p x × IsMadeFor rs x.name z.name)) (sym q.1) (
          (λ e. made_here g p ((made p).0 e)),
          (λ w. (made p).1 (made_there g (inr refl) p w)),
        )
      ];
      takers = λ i d at. elim (at_more calls c d i at) [
        | inl a ↦ h.takers i d a
        | inr q ↦ subst (λ (z : Call). IsTaker rs z.name z.taker) (sym q.1) took
      ];
    }

module _ (P : Program) (query : Query) (rs : List Record) (t : State) (replay : Replays P query rs t) where
  -- The maker of a goal is the call that the step of its name's number took.
  module _ (named : GoalName → Type 0) (calls : List Call) (h : AreCallsBy rs named calls) (g : GoalName) (makes : (q : Record) → In q rs → g.step ≡ q.number → MakesGoal q g) where
    taken_so : (p : ℕ) (d : Call) → StandsAtPlace calls p d → (r : Record) → In r rs → r.goal ≡ Some d.name → MakesGoal r g → d.taker ≡ Some g.step
    taken_so p d at r i e m = by_taker d.taker refl
      where
        by_taker : (o : Option ℕ) → d.taker ≡ o → d.taker ≡ Some g.step
        by_taker None none = absurd (subst (IsTaker rs d.name) none (h.takers p d at) r i e)
        by_taker (Some n) some =
            let s = subst (IsTaker rs d.name) some (h.takers p d at) in
            let one : s.0 ≡ r = consumed_once P query rs t replay r s.0 d.name i s.2 e s.4 in
            some ∙ ap Some (sym s.3 ∙ ap (λ (z : Record). z.number) one ∙ sym m.0)

    pub maker_is : (maker : Option ℕ) → IsPlaceTakenBy calls g.step maker → IsMakerOf rs calls g maker
    maker_is None none p = (
      (λ e. let clash : None ≡ Some p = e in cc),
      (λ (d, at, (r, i, e, m)). absurd (none p d at (taken_so p d at r i e m))),
    )
    maker_is (Some q) (d, at, took) p =
        let s = subst (IsTaker rs d.name) took (h.takers q d at) in (
          (λ e.
              let same : q ≡ p = cc in
              (d, subst (λ k. StandsAtPlace calls k d) same at, (s.0, s.2, s.4, makes s.0 s.2 (sym s.3)))),
          (λ (x, there, (r, i, e, m)).
              let one : s.0 ≡ r = numbered_once P query rs t replay r s.0 i s.2 (sym m.0 ∙ sym s.3) in
              let name : d.name ≡ x.name = same_value s.4 (ap (λ (z : Record). z.goal) one ∙ e) in
              ap Some (h.once q p d x at there name)),
        )

  -- One step more took a call, or none.
  module _ (front back : List Record) (r : Record) (split : rs ≡ front ++ r ∷ back) (calls new : List Call) (h : AreCallsBy rs (IsCallTaken front) calls) where
    there : In r rs
    there = subst (In r) (sym split) (in_right front (r ∷ back) r (inl refl))

    in_whole : (q : Record) → In q front → In q rs
    in_whole q i = subst (In q) (sym split) (in_left front (r ∷ back) q i)

    in_order : (q : Record) → In q front → ¬ Before rs r q
    in_order q i after = before_once rs q r (records_distinct rs replay.0.1) (subst (λ l. Before l q r) (sym split) (before_front front back r q i)) after

    -- If the step took g, the calls taken are those before, and g.
    with_one : (g : GoalName) → TakesCall r g → (k : GoalName) → (IsCallTaken front k ⊎ (k ≡ g)) ↔ IsCallTaken (front ++ r ∷ []) k
    with_one g took k = (
      (λ is. elim is [
        | inl (q, b, i, e, c, call_b) ↦ (q, b, in_left front (r ∷ []) q i, e, c, call_b)
        | inr same ↦ (r, took.0, in_last front r, took.1 ∙ ap Some (sym same), took.2, took.3)
      ]),
      (λ (q, b, i, e, c, call_b). elim (in_more front r q i) [
        | inl j ↦ inl (q, b, j, e, c, call_b)
        | inr one ↦ inr (same_value (ap (λ (z : Record). z.goal) (sym one) ∙ e) took.1)
      ]),
    )

    with_none : ((g : GoalName) → ¬ TakesCall r g) → (k : GoalName) → IsCallTaken front k ↔ IsCallTaken (front ++ r ∷ []) k
    with_none none k = (
      (λ (q, b, i, e, c, call_b). (q, b, in_left front (r ∷ []) q i, e, c, call_b)),
      (λ (q, b, i, e, c, call_b). elim (in_more front r q i) [
        | inl j ↦ (q, b, j, e, c, call_b)
        | inr one ↦ absurd (none k (b, ap (λ (z : Record). z.goal) (sym one) ∙ e, ap (λ (z : Record). z.consumed) (sym one) ∙ c, call_b))
      ]),
    )

    module _ (g : GoalName) (took : TakesCall r g) where
      not_yet : ¬ IsCallTaken front g
      not_yet (q, b, i, e, c, call_b) =
          let one : q ≡ r = consumed_once P query rs t replay r q g there (in_whole q i) took.1 e in
          distinct_split front r back (subst (λ (l : List Record). AreDistinct l) split (records_distinct rs replay.0.1)) (subst (λ z. In z front) one i)

      unmade : (k : GoalName) → IsCallTaken front k ⊎ (k ≡ g) → ¬ IsMadeFor rs g k
      unmade k is (q, i, e, m) =
          let one : q ≡ r = consumed_once P query rs t replay r q g there i took.1 e in
          let step : k.step ≡ r.number = m.0 ∙ ap (λ (z : Record). z.number) one in
          elim is [
            | inl (s, b, j, named, c, call_b) ↦ in_order s j (taken_made P query rs t replay s k b (in_whole s j) named c r there step).2
            | inr same ↦
                let before = (taken_made P query rs t replay r g took.0 there took.1 took.2 r there (ap (λ (z : GoalName). z.step) (sym same) ∙ step)).2 in
                before_once rs r r (records_distinct rs replay.0.1) before before
          ]

      took_more : AddsCall calls new g (Some r.number) → AreCallsBy rs (IsCallTaken (front ++ r ∷ [])) new
      took_more (maker, place, is) =
          let made = maker_is (IsCallTaken front) calls h g (λ q j same. (taken_made P query rs t replay r g took.0 there took.1 took.2 q j same).0) maker place in
          let more = one_call rs (IsCallTaken front) calls h g maker (Some r.number) not_yet made (r, took.0, there, refl, took.1, took.2, took.3) unmade in
          subst (AreCallsBy rs (IsCallTaken (front ++ r ∷ []))) (sym is) (as_named rs _ _ more (IsCallTaken (front ++ r ∷ [])) (with_one g took))

    pub taken_more : AddsTaken calls new r → AreCallsBy rs (IsCallTaken (front ++ r ∷ [])) new
    taken_more (inl (g, took, add)) = took_more g took add
    taken_more (inr (none, same)) = subst (AreCallsBy rs (IsCallTaken (front ++ r ∷ []))) (sym same) (as_named rs (IsCallTaken front) calls h (IsCallTaken (front ++ r ∷ [])) (with_none none))

  -- What is asked about comes last, if it is a call.
  module _ (target : Option GoalName) (calls : List Call) (h : AreCallsBy rs (IsCallTaken rs) calls) where
    pub none_asked : IsAskedAbout t target None → AreCallsOf rs t target calls
    none_asked asked = as_named rs (IsCallTaken rs) calls h (IsCallOf rs t target) (λ k. (
      (λ is. inl is),
      (λ is. elim is [ inl taken ↦ taken | inr q ↦ let clash : None ≡ Some k = (asked k).1 q in cc ]),
    ))

    module _ (g : GoalName) (asked : IsAskedAbout t target (Some g)) (new : List Call) where
      mine : (target ≡ Some g) × (b : Goal) × (finite.get t.goals g ≡ Some b) × IsCall b
      mine = (asked g).0 refl

      untaken : (r : Record) → In r rs → ¬ (r.goal ≡ Some g)
      untaken = standing_untaken P query rs t replay g mine.1 mine.2

      pub one_asked : AddsCall calls new g None → AreCallsOf rs t target new
      one_asked (maker, place, is) =
          let made = maker_is (IsCallTaken rs) calls h g (λ q j same. (standing_made P query rs t replay g mine.1 mine.2 q j same).0) maker place in
          let more = one_call rs (IsCallTaken rs) calls h g maker None (λ (r, b, i, e, c, call_b). untaken r i e) made untaken (λ k named (r, i, e, m). untaken r i e) in
          subst (AreCallsOf rs t target) (sym is) (as_named rs _ _ more (IsCallOf rs t target) (λ k. (
            (λ named. elim named [ inl taken ↦ inl taken | inr same ↦ inr (subst (λ z. (target ≡ Some z) × (b : Goal) × (finite.get t.goals z ≡ Some b) × IsCall b) (sym same) mine) ]),
            (λ named. elim named [ inl taken ↦ inl taken | inr q ↦ inr (same_value q.0 mine.0) ]),
          )))
