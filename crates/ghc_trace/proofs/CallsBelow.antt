-- A call stands after those from which it descends, and is in question by what is said of its maker.
use Rattle.ghc_trace.proofs.Words.{◌≡◌, ℕ, ◌<◌, List, [], ◌∷◌, ◌++◌, length, get_or, refl, sym, ap, ◌∙◌, subst, inl, inr, arith, ◌⊎◌, ◌↔◌, Bool, true, false, IsTrue, Option, Some, None, cases_eq, slice_get, GoalName, In, Program, Query, State, Record, MakesGoal, Replays, Descends, itself, made_by, same_value}
use Rattle.ghc_depend.proofs.Finding.{by_option, goal_or_not}
use Rattle.ghc_trace.proofs.CallMakers.{maker_called}
use Rattle.std.proofs.lemmas.Option.{slice_get-get_or}
use Rattle.std.specs.BTreeMap.{BTreeMap}
use Rattle.ghc_trace.proofs.CallPlaces.{at_more}
use Rattle.ghc_trace.proofs.Descending.{descends_on, in_line, no_circle}
use Rattle.ghc_trace.specs.declared.judgements.Judgement.{Judgement}
use Rattle.ghc_trace.specs.Blaming.{IsBelow, IsCallOf, IsInQuestion, IsTold}
use Rattle.ghc_trace.specs.declared.judgements.Answer.{Answer}
use Rattle.ghc_trace.specs.declared.judgements.Judgement.TheVariants.{Right}
use Rattle.ghc_trace.specs.declared.slice_calls.Call.{Call}
use Rattle.ghc_trace.specs.inner.BlameCode.{AreCallsOf, AreJudged, IsMadeFor, IsNameOfTop, IsOpenAt, IsOpenCall, StandsAtPlace}

-- What is said of the calls, by place, is so.
abbrev pub AreSaidOf : List Record → State → Option GoalName → List Answer → Option GoalName → List Call → List Bool → Type 0
AreSaidOf rs t target told top calls doubts = (j : ℕ) (d : Call) (b : Bool) → StandsAtPlace calls j d → slice_get doubts j ≡ Some b → IsTrue b ↔ IsInQuestion rs t target told top d.name

module _ (P : Program) (query : Query) (rs : List Record) (t : State) (replay : Replays P query rs t) where
  pub circle : (k g : GoalName) → Descends rs k g → Descends rs g k → k ≡ g
  circle k g d e = no_circle P query rs t replay g k e d

  module _ (target : Option GoalName) (calls : List Call) (h : AreCallsOf rs t target calls) where
    pub call_at : (i : ℕ) (c : Call) → StandsAtPlace calls i c → IsCallOf rs t target c.name
    call_at i c at = (h.all c.name).1 (i, c, at, refl)

    -- The goal of the step that made a call is its maker.
    maker_at : (i : ℕ) (c : Call) → StandsAtPlace calls i c → (r : Record) → In r rs → (k : GoalName) → r.goal ≡ Some k → MakesGoal r c.name
        → (p : ℕ) × (d : Call) × StandsAtPlace calls p d × (d.name ≡ k) × (c.maker ≡ Some p) × (p < i)
    maker_at i c at r j k e m =
        let taken = maker_called P query rs t replay target c.name (call_at i c at) r j m k e in
        let q = (h.all k).0 (inl taken) in
        let is = (h.makers i q.0 c at).1 (q.1, q.2, (r, j, e ∙ ap Some (sym q.3), m)) in
        (q.0, q.1, q.2, q.3, is, h.before i q.0 c at is)

    -- A call descends from itself, or from calls before it.
    pub above : (k g : GoalName) → Descends rs k g → (i : ℕ) (c : Call) → StandsAtPlace calls i c → c.name ≡ g
        → (k ≡ g) ⊎ ((p : ℕ) × (d : Call) × StandsAtPlace calls p d × (d.name ≡ k) × (p < i))
    above k g itself i c at same = inl refl
    above k g (made_by {h = m} r j makes e d) i c at same =
        let q = maker_at i c at r j m e (subst (MakesGoal r) (sym same) makes) in
        inr (elim (above k m d q.0 q.1 q.2 q.3) [
          | inl one ↦ (q.0, q.1, q.2, q.3 ∙ sym one, q.5)
          | inr w ↦ let first = w.4 in let then = q.5 in (w.0, w.1, w.2, w.3, omega (arith, first, then))
        ])

    -- A call without a maker descends from itself alone.
    alone : (i : ℕ) (c : Call) → StandsAtPlace calls i c → c.maker ≡ None → (k g : GoalName) → c.name ≡ g → Descends rs k g → k ≡ g
    alone i c at none k g same itself = refl
    alone i c at none k g same (made_by {h = m} r j makes e d) =
        let q = maker_at i c at r j m e (subst (MakesGoal r) (sym same) makes) in
        let clash : None ≡ Some q.0 = sym none ∙ q.4 in
        cc

    -- A call with a maker descends from itself, and from what the maker descends from.
    module _ (i : ℕ) (c : Call) (at : StandsAtPlace calls i c) (p : ℕ) (made : c.maker ≡ Some p) (d : Call) (there : StandsAtPlace calls p d) where
      up : (k g : GoalName) → c.name ≡ g → Descends rs k g → (k ≡ g) ⊎ Descends rs k d.name
      up k g same itself = inl refl
      up k g same (made_by {h = m} r j makes e f) =
          let q = maker_at i c at r j m e (subst (MakesGoal r) (sym same) makes) in
          let place : q.0 ≡ p = same_value q.4 made in
          let one : q.1 ≡ d = same_value (subst (λ z. StandsAtPlace calls z q.1) place q.2) there in
          inr (subst (Descends rs k) (sym q.3 ∙ ap (λ (z : Call). z.name) one) f)

      pub one_up : (k : GoalName) → Descends rs k c.name → (k ≡ c.name) ⊎ Descends rs k d.name
      one_up k f = up k c.name refl f

      pub one_down : (k : GoalName) → Descends rs k d.name → Descends rs k c.name
      one_down k f =
          let q = (h.makers i p c at).0 made in
          let one : q.0 ≡ d = same_value q.1 there in
          let r = subst (λ (z : Call). IsMadeFor rs z.name c.name) one q.2 in
          made_by r.0 r.1 r.3 r.2 f

      pub not_the_maker : ¬ (c.name ≡ d.name)
      not_the_maker same =
          let one : i ≡ p = h.once i p c d at there same in
          let low = h.before i p c at made in
          omega (arith, one, low)

    module _ (told : List Answer) where
      -- What is in question below a call in question is in question below the top.
      pub still_so : (top : Option GoalName) (g x : GoalName) → IsInQuestion rs t target told top g → IsInQuestion rs t target told (Some g) x → IsInQuestion rs t target told top x
      still_so top g x of_g of_x = (
        of_x.0,
        below top of_g.1,
        λ k under d. elim (in_line P query rs t replay k g x d of_x.1.0) [
          | inl first ↦ of_g.2 k under first
          | inr after ↦ elim (goal_or_not k g) [
            | inl same ↦ of_g.2 k under (subst (Descends rs k) same itself)
            | inr other ↦ of_x.2 k (after, other) d
          ]
        ],
      )
        where
          below : (o : Option GoalName) → IsBelow rs o g → IsBelow rs o x
          below None under = tt
          below (Some a) under = (descends_on rs a g x under.0 of_x.1.0, λ same. under.1 (sym (circle a g under.0 (subst (Descends rs g) same of_x.1.0))))

      -- No call is below itself.
      pub not_itself : (g : GoalName) → ¬ IsInQuestion rs t target told (Some g) g
      not_itself g q = q.1.1 refl

      -- A call between two in question is in question.
      pub between : (top : Option GoalName) (g m x : GoalName) → IsInQuestion rs t target told top g → IsInQuestion rs t target told top x → IsCallOf rs t target m
          → Descends rs g m → Descends rs m x → IsInQuestion rs t target told top m
      between top g m x of_g of_x is d f = (is, below top of_g.1, λ k under e. of_x.2 k under (descends_on rs k m x e f))
        where
          below : (o : Option GoalName) → IsBelow rs o g → IsBelow rs o m
          below None under = tt
          below (Some a) under = (descends_on rs a g m under.0 d, λ same. under.1 (sym (circle a g under.0 (subst (Descends rs g) same d))))

      -- The call at a place is in question by its maker.
      module _ (place : Option ℕ) (top : Option GoalName) (named : IsNameOfTop calls place top) (i : ℕ) (c : Call) (at : StandsAtPlace calls i c) where
        -- The call has no maker below the query, or its maker is the top, or is in question.
        abbrev pub IsNext : Type 0
        IsNext = ((c.maker ≡ None) × (place ≡ None)) ⊎ ((p : ℕ) × (c.maker ≡ Some p) × ((place ≡ Some p) ⊎ ((d : Call) × StandsAtPlace calls p d × IsInQuestion rs t target told top d.name)))

        pub not_right : IsInQuestion rs t target told top c.name → ¬ IsTold told c.name Right
        not_right q = q.2 c.name q.1 itself

        none_top : c.maker ≡ None → (o : Option ℕ) → IsNameOfTop calls o top → IsBelow rs top c.name → o ≡ None
        none_top none None e under = refl
        none_top none (Some z) (a, at_a, e) under =
            let u = subst (λ o. IsBelow rs o c.name) e under in
            absurd (u.1 (sym (alone i c at none a.name c.name refl u.0)))

        maker_next : (p : ℕ) → c.maker ≡ Some p → IsInQuestion rs t target told top c.name → (o : Option ℕ) → IsNameOfTop calls o top
            → (o ≡ Some p) ⊎ ((d : Call) × StandsAtPlace calls p d × IsInQuestion rs t target told top d.name)
        maker_next p made q None e =
            let d = (h.makers i p c at).0 made in
            inr (d.0, d.1, (call_at p d.0 d.1, subst (λ o. IsBelow rs o d.0.name) (sym e) tt, λ k under f. q.2 k under (one_down i c at p made d.0 d.1 k f)))
        maker_next p made q (Some z) (a, at_a, e) =
            let d = (h.makers i p c at).0 made in
            let u = subst (λ o. IsBelow rs o c.name) e q.1 in
            let from : Descends rs a.name d.0.name = elim (one_up i c at p made d.0 d.1 a.name u.0) [ inl same ↦ absurd (u.1 (sym same)) | inr f ↦ f ] in
            elim (cases_eq z p) [
              | inl same ↦ inl (ap Some same)
              | inr other ↦ inr (
                d.0,
                d.1,
                (
                  call_at p d.0 d.1,
                  subst (λ o. IsBelow rs o d.0.name) (sym e) (from, λ same. other (h.once z p a d.0 at_a d.1 (sym same))),
                  λ k under f. q.2 k under (one_down i c at p made d.0 d.1 k f),
                ),
              )
            ]

        pub next_of : IsInQuestion rs t target told top c.name → IsNext
        next_of q = by_option c.maker (λ none. inl (none, none_top none place named q.1)) (λ p made. inr (p, made, maker_next p made q place named))

        pub in_question_if : IsNext → ¬ IsTold told c.name Right → IsInQuestion rs t target told top c.name
        in_question_if (inl (none, no_place)) not =
            let e : top ≡ None = subst (λ o. IsNameOfTop calls o top) no_place named in
            (call_at i c at, subst (λ o. IsBelow rs o c.name) (sym e) tt, λ k under f holds. not (subst (λ z. IsTold told z Right) (alone i c at none k c.name refl f) holds))
        in_question_if (inr (p, made, inl here)) not =
            let a = subst (λ o. IsNameOfTop calls o top) here named in (
              call_at i c at,
              subst (λ o. IsBelow rs o c.name) (sym a.2) (one_down i c at p made a.0 a.1 a.0.name itself, not_the_maker i c at p made a.0 a.1),
              λ k under f holds.
                  let u = subst (λ o. IsBelow rs o k) a.2 under in
                  elim (one_up i c at p made a.0 a.1 k f) [
                    | inl same ↦ not (subst (λ z. IsTold told z Right) same holds)
                    | inr g ↦ u.1 (circle k a.0.name g u.0)
                  ],
            )
        in_question_if (inr (p, made, inr (d, at_d, q))) not = (
          call_at i c at,
          below top q.1,
          λ k under f holds. elim (one_up i c at p made d at_d k f) [ inl same ↦ not (subst (λ z. IsTold told z Right) same holds) | inr g ↦ q.2 k under g holds ],
        )
          where
            below : (o : Option GoalName) → IsBelow rs o d.name → IsBelow rs o c.name
            below None under = tt
            below (Some a) under = (
              one_down i c at p made d at_d a under.0,
              λ same. not_the_maker i c at p made d at_d (circle c.name d.name (subst (λ z. Descends rs z d.name) (sym same) under.0) (one_down i c at p made d at_d d.name itself)),
            )

        module _ (judged : BTreeMap GoalName Judgement) (tells : AreJudged told judged) (doubts : List Bool) (said : AreSaidOf rs t target told top calls doubts) (here : length doubts ≡ i) where
          maker_open : (p : ℕ) → c.maker ≡ Some p → IsOpenAt doubts p ↔ ((d : Call) × StandsAtPlace calls p d × IsInQuestion rs t target told top d.name)
          maker_open p made = (
            (λ holds. let d = (h.makers i p c at).0 made in (d.0, d.1, (said p d.0 true d.1 holds).0 refl)),
            (λ (d, at_d, q).
                let low = h.before i p c at made in
                let within : p < length doubts = omega (arith, low, here) in
                let value : slice_get doubts p ≡ Some (get_or doubts p false) = slice_get-get_or doubts p false within in
                value ∙ ap Some ((said p d (get_or doubts p false) at_d value).1 q)),
          )

          -- The code's test is true just of a call in question.
          pub open_so : IsOpenCall c judged place doubts ↔ IsInQuestion rs t target told top c.name
          open_so = (
            (λ (next, not). in_question_if (elim next [
              | inl alone_so ↦ inl alone_so
              | inr (p, made, way) ↦ inr (p, made, elim way [ inl top_so ↦ inl top_so | inr holds ↦ inr ((maker_open p made).0 holds) ])
            ]) (λ told_right. not ((tells c.name Right).1 told_right))),
            (λ q. (
              (elim (next_of q) [
                | inl alone_so ↦ inl alone_so
                | inr (p, made, way) ↦ inr (p, made, elim way [ inl top_so ↦ inl top_so | inr w ↦ inr ((maker_open p made).1 w) ])
              ]),
              λ e. not_right q ((tells c.name Right).0 e),
            )),
          )

          pub said_more : (b : Bool) → (IsTrue b ↔ IsOpenCall c judged place doubts) → AreSaidOf rs t target told top calls (doubts ++ b ∷ [])
          said_more b is j d e at_d there = elim (at_more doubts b e j there) [
            | inl old ↦ said j d e at_d old
            | inr (last, same) ↦
                let one : d ≡ c = same_value (subst (λ z. StandsAtPlace calls z d) (last ∙ here) at_d) at in
                subst (λ z. IsTrue z ↔ IsInQuestion rs t target told top d.name) (sym same) (subst (λ (z : Call). IsTrue b ↔ IsInQuestion rs t target told top z.name) (sym one) (
                  (λ holds. open_so.0 (is.0 holds)),
                  (λ q. is.1 (open_so.1 q)),
                ))
          ]
