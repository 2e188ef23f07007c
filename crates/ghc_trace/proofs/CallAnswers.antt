-- What was told last, and the best call to ask about.
use Rattle.ghc_trace.proofs.Words.{◌≡◌, ℕ, ◌+◌, ◌-◌, ◌<◌, ◌≤◌, Bool, true, List, [], ◌∷◌, ◌++◌, length, get_or, refl, sym, ap, ◌∙◌, subst, inl, inr, arith, ◌⊎◌, Option, Some, None, cond, eq_by_cmp, slice_get, slice_get_within, GoalName, goal_antisymmetric, goal_cmp, goal_total, Program, Query, State, Record, Replays, Descends, Ordering, Less, Equal, Greater, cases_eq, same_value}
use Rattle.std.specs.BTreeMap.{BTreeMap, Updates, get, is_at}
use Rattle.std.specs.Map.{lookup}
use Rattle.std.specs.Ordering.{ordering_reverse}
use Rattle.std.specs.Prelude.{IfSome}
use Rattle.std.proofs.lemmas.Option.{slice_get-get_or}
use Rattle.ghc_term.proofs.GoalNames.{apart}
use Rattle.ghc_records.proofs.States.{tied}
use Rattle.ghc_depend.proofs.Finding.{goal_or_not}
use Rattle.ghc_trace.proofs.Blamed.{told_before, told_now, told_once, told_still}
use Rattle.ghc_trace.proofs.CallCounts.{so_many_as, so_many_once, so_many_open}
use Rattle.ghc_trace.proofs.CallWeights.{at_doubted, doubted_at}
use Rattle.ghc_trace.specs.Blaming.{AreSoMany, IsAsked, IsInQuestion, IsTold, IsWeight, off_half}
use Rattle.ghc_trace.specs.declared.judgements.Answer.{Answer}
use Rattle.ghc_trace.specs.declared.judgements.Judgement.{Judgement}
use Rattle.ghc_trace.specs.declared.next_question.Choice.{Choice}
use Rattle.ghc_trace.specs.declared.slice_calls.Call.{Call}
use Rattle.ghc_trace.specs.inner.BlameCode.{AreCallsOf, AreInQuestion, AreJudged, IsNoWorse, IsOpenAt, StandsAtPlace, count_open}

-- Before the first answer nothing was told.
pub judged_none : (m : BTreeMap GoalName Judgement) → m.entries ≡ [] → AreJudged [] m
judged_none m e g j = (
  (λ is. let clash : None ≡ Some j = sym (ap (λ es. lookup (is_at (goal_cmp g)) es) e) ∙ is in cc),
  (λ (earlier, later, split, none). absurd (never earlier later (record { goal = g; judgement = j }) split)),
)
  where
    never : (earlier later : List Answer) (a : Answer) → ¬ ([] ≡ earlier ++ a ∷ later)
    never [] later a e = cc
    never (b ∷ earlier) later a e = cc

-- One answer more is the last about its goal, and changes nothing about others.
pub judged_more : (told : List Answer) (a : Answer) (m n : BTreeMap GoalName Judgement) → AreJudged told m → Updates goal_cmp m n a.goal (Some a.judgement) → AreJudged (told ++ a ∷ []) n
judged_more told a m n h up g j =
    let now : get goal_cmp n g ≡ cond (eq_by_cmp goal_cmp a.goal g) (Some a.judgement) (get goal_cmp m g) = up.0 g in
    elim (goal_or_not a.goal g) [
      | inl same ↦
          let value : get goal_cmp n g ≡ Some a.judgement = now ∙ ap (λ b. cond b (Some a.judgement) (get goal_cmp m g)) (tied a.goal g same) in
          let last : IsTold (told ++ a ∷ []) g a.judgement = subst (λ z. IsTold (told ++ a ∷ []) z a.judgement) same (told_now told a.goal a.judgement) in (
            (λ is. subst (IsTold (told ++ a ∷ []) g) (same_value value is) last),
            (λ is. value ∙ ap Some (told_once (told ++ a ∷ []) g a.judgement j last is)),
          )
      | inr other ↦
          let value : get goal_cmp n g ≡ get goal_cmp m g = now ∙ ap (λ b. cond b (Some a.judgement) (get goal_cmp m g)) (apart a.goal g other) in
          let off : ¬ (g ≡ a.goal) = λ e. other (sym e) in (
            (λ is. told_before told a.goal a.judgement g j off ((h g j).0 (sym value ∙ is))),
            (λ is. value ∙ (h g j).1 (told_still told a.goal a.judgement g j off is)),
          )
    ]

-- This is the choice of the call at the place, which is in question.
abbrev pub IsChoiceAt : List Call → List Bool → List ℕ → ℕ → ℕ → Choice → Type 0
IsChoiceAt calls doubts weights count j x = (c : Call) × (w : ℕ) × StandsAtPlace calls j c × IsOpenAt doubts j × (slice_get weights j ≡ Some w) × (x.name ≡ c.name) × (x.off ≡ off_half w count)

-- Of the calls in question below the place k, this one is the best; or there is none.
abbrev pub IsBestSoFar : List Call → List Bool → List ℕ → ℕ → ℕ → Option Choice → Type 0
IsBestSoFar calls doubts weights count k None = (j : ℕ) → j < k → ¬ IsOpenAt doubts j
IsBestSoFar calls doubts weights count k (Some b) = IsChoiceAt calls doubts weights count b.place b × ((j : ℕ) (x : Choice) → j < k → IsChoiceAt calls doubts weights count j x → IsNoWorse b x)

-- If a is no worse than b, and b no worse than c, then a is no worse than c.
pub no_worse_on : (a b c : Choice) → IsNoWorse a b → IsNoWorse b c → IsNoWorse a c
no_worse_on a b c (inl p) (inl q) = inl (omega (arith, p, q))
no_worse_on a b c (inl p) (inr q) = let same = q.0 in inl (omega (arith, p, same))
no_worse_on a b c (inr p) (inl q) = let same = p.0 in inl (omega (arith, same, q))
no_worse_on a b c (inr (e, p)) (inr (f, q)) = inr (
  e ∙ f,
  elim p [
    | inl same ↦ elim q [ inl again ↦ inl (same ∙ again) | inr less ↦ inr (subst (λ z. goal_cmp z c.name ≡ Less) (sym same) less) ]
    | inr first ↦ elim q [ inl same ↦ inr (subst (λ z. goal_cmp a.name z ≡ Less) same first) | inr less ↦ inr (goal_total.trans a.name b.name c.name first less) ]
  ],
)

-- A name that is not before another is that one, or after it.
pub not_before : (g h : GoalName) → ¬ (goal_cmp g h ≡ Less) → (h ≡ g) ⊎ (goal_cmp h g ≡ Less)
not_before g h fails = by_order (goal_cmp g h) refl
  where
    by_order : (o : Ordering) → goal_cmp g h ≡ o → (h ≡ g) ⊎ (goal_cmp h g ≡ Less)
    by_order Less e = absurd (fails e)
    by_order Equal e = inl (sym (goal_antisymmetric g h e))
    by_order Greater e = inr (goal_total.antisymm h g ∙ ap ordering_reverse e)

module _ (calls : List Call) (doubts : List Bool) (weights : List ℕ) (count k : ℕ) where
  -- A call that is not in question leaves the best.
  pub best_stays : (best : Option Choice) → IsBestSoFar calls doubts weights count k best → ¬ IsOpenAt doubts k → IsBestSoFar calls doubts weights count (k + 1) best
  best_stays None none fails = λ j low holds. elim (cases_eq j k) [ inl here ↦ fails (subst (IsOpenAt doubts) here holds) | inr other ↦ none j (omega (arith, low, other)) holds ]
  best_stays (Some b) best fails = (
    best.0,
    λ j x low at. elim (cases_eq j k) [
      | inl here ↦ absurd (fails (subst (IsOpenAt doubts) here at.3))
      | inr other ↦ best.1 j x (omega (arith, low, other)) at
    ],
  )

  -- One in question is compared with the best.
  pub best_more : (best : Option Choice) (new r : Choice) → IsBestSoFar calls doubts weights count k best → new.place ≡ k → IsChoiceAt calls doubts weights count k new
      → (r ≡ new) ⊎ (best ≡ Some r) → IfSome best (IsNoWorse r) → IsNoWorse r new → IsBestSoFar calls doubts weights count (k + 1) (Some r)
  best_more best new r so_far place is chosen over not_new = (
    elim chosen [
      | inl e ↦ subst (λ (z : Choice). IsChoiceAt calls doubts weights count z.place z) (sym e) (subst (λ j. IsChoiceAt calls doubts weights count j new) (sym place) is)
      | inr e ↦ (subst (IsBestSoFar calls doubts weights count k) e so_far).0
    ],
    λ j x low at. elim (cases_eq j k) [
      | inl here ↦ same_choice x (subst (λ z. IsChoiceAt calls doubts weights count z x) here at)
      | inr other ↦ before j x (omega (arith, low, other)) at best so_far over
    ],
  )
    where
      same_choice : (x : Choice) → IsChoiceAt calls doubts weights count k x → IsNoWorse r x
      same_choice x at =
          let one : at.0 ≡ is.0 = same_value at.2 is.2 in
          let weight : at.1 ≡ is.1 = same_value at.4 is.4 in
          let name : x.name ≡ new.name = at.5 ∙ ap (λ (z : Call). z.name) one ∙ sym is.5 in
          let off : x.off ≡ new.off = at.6 ∙ ap (λ w. off_half w count) weight ∙ sym is.6 in
          no_worse_on r new x not_new (inr (sym off, inl (sym name)))

      before : (j : ℕ) (x : Choice) → j < k → IsChoiceAt calls doubts weights count j x → (o : Option Choice) → IsBestSoFar calls doubts weights count k o → IfSome o (IsNoWorse r) → IsNoWorse r x
      before j x low at None none no_one = absurd (none j low at.3)
      before j x low at (Some b) best over = no_worse_on r b x over (best.1 j x low at)

module _ (P : Program) (query : Query) (rs : List Record) (t : State) (replay : Replays P query rs t) (target : Option GoalName) (calls : List Call) (h : AreCallsOf rs t target calls)
    (told : List Answer) (top : Option GoalName) (doubts : List Bool) (q : AreInQuestion rs t target told top calls doubts) where
  -- So many calls are in question.
  pub counted : AreSoMany (IsInQuestion rs t target told top) (count_open doubts)
  counted = so_many_as _ (IsInQuestion rs t target told top) (count_open doubts) (λ g. (
    (λ (i, c, at, holds, same). subst (IsInQuestion rs t target told top) same (doubted_at P query rs t replay target calls h told top doubts q i c at holds)),
    (λ is. let w = (h.all g).0 is.0 in (w.0, w.1, w.2, at_doubted P query rs t replay target calls h told top doubts q w.0 w.1 w.2 (subst (IsInQuestion rs t target told top) (sym w.3) is), w.3)),
  )) (so_many_open calls doubts h.once q.long)

  -- If no place has a call in question, none is in question.
  pub none_left : (k : ℕ) → length doubts ≤ k → ((j : ℕ) → j < k → ¬ IsOpenAt doubts j) → (g : GoalName) → ¬ IsInQuestion rs t target told top g
  none_left k high none g is =
      let w = (h.all g).0 is.0 in
      let holds = at_doubted P query rs t replay target calls h told top doubts q w.0 w.1 w.2 (subst (IsInQuestion rs t target told top) (sym w.3) is) in
      let low = slice_get_within doubts w.0 true holds in
      none w.0 (omega (arith, low, high)) holds

  -- The best is the call to ask about.
  pub best_asked : (weights : List ℕ) (count k : ℕ) (b : Choice) → length doubts ≤ k → length weights ≡ length doubts → count ≡ count_open doubts
      → ((i w : ℕ) (c : Call) → StandsAtPlace calls i c → IsOpenAt doubts i → slice_get weights i ≡ Some w → IsWeight rs t target told top c.name w)
      → IsBestSoFar calls doubts weights count k (Some b) → (c : Call) × StandsAtPlace calls b.place c × IsAsked rs t target told top count c.name
  best_asked weights count k b high long is_count weigh ((c, w, at, holds, weight, name, off), best) = (
    c,
    at,
    record {
      questions = subst (AreSoMany (IsInQuestion rs t target told top)) (sym is_count) counted;
      one = doubted_at P query rs t replay target calls h told top doubts q b.place c at holds;
      weight = w;
      weighs = weigh b.place w c at holds weight;
      nearest = λ g n is weighs.
          let v = (h.all g).0 is.0 in
          let open_there = at_doubted P query rs t replay target calls h told top doubts q v.0 v.1 v.2 (subst (IsInQuestion rs t target told top) (sym v.3) is) in
          let low = slice_get_within doubts v.0 true open_there in
          let value : slice_get weights v.0 ≡ Some (get_or weights v.0 0) = slice_get-get_or weights v.0 0 (omega (arith, low, long)) in
          let weight_there = subst (λ z. IsWeight rs t target told top z (get_or weights v.0 0)) v.3 (weigh v.0 (get_or weights v.0 0) v.1 v.2 open_there value) in
          let same : get_or weights v.0 0 ≡ n = so_many_once (λ x. IsInQuestion rs t target told top x × Descends rs g x) (get_or weights v.0 0) n weight_there weighs in
          let x : Choice = record { place = v.0; name = g; off = off_half n count } in
          let no_worse = best v.0 x (omega (arith, low, high)) (v.1, get_or weights v.0 0, v.2, open_there, value, sym v.3, ap (λ z. off_half z count) (sym same)) in
          as_nearest w n g c b off name no_worse;
    },
  )
    where
      as_nearest : (w n : ℕ) (g : GoalName) (c : Call) (b : Choice) → b.off ≡ off_half w count → b.name ≡ c.name → IsNoWorse b (record { place = 0; name = g; off = off_half n count })
          → (off_half w count < off_half n count) ⊎ ((off_half w count ≡ off_half n count) × ((c.name ≡ g) ⊎ (goal_cmp c.name g ≡ Less)))
      as_nearest w n g c b off name (inl less) = inl (subst (λ z. z < off_half n count) off less)
      as_nearest w n g c b off name (inr (same, names)) = inr (sym off ∙ same, elim names [ inl e ↦ inl (sym name ∙ e) | inr less ↦ inr (subst (λ z. goal_cmp z g ≡ Less) name less) ])
