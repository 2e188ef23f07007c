-- What was told of calls leads to one top, and what is said to be at fault there is so.
use Rattle.ghc_trace.proofs.Words.{◌≡◌, ◌≢◌, ◌⊎◌, Bool, IsTrue, List, [], ◌∷◌, ◌++◌, append_assoc, Option, None, Some, refl, sym, ap, ◌∙◌, subst, inl, inr, GoalName, In, in_more, in_right, Program, Query, State, Record, MakesGoal, Replays, Descends, itself, made_by, same_value}
use Rattle.ghc_depend.proofs.Finding.{goal_or_not}
use Rattle.ghc_depend.proofs.Parting.{maker_once}
use Rattle.ghc_trace.specs.declared.judgements.Judgement.{Judgement}
use Rattle.ghc_trace.specs.declared.judgements.Judgement.TheVariants.{Right, Wrong}
use Rattle.ghc_trace.specs.declared.judgements.Answer.{Answer}
use Rattle.ghc_trace.specs.Blaming.{Accords, IsBelow, IsFault, IsInQuestion, IsJudgedAtFault, IsLastWrong, IsReached, IsTold, IsTop, by_wrong, from_query}
use Rattle.ghc_trace.specs.BlameLaws.{BlameGoesOn, BlameHasOneTop, BlameIsSound, GoesOn}
use Rattle.ghc_trace.proofs.Descending.{descends_on, in_line, no_circle, no_way_back}

-- a word about a goal
abbrev pub word : GoalName → Judgement → Answer
word g j = record { goal = g; judgement = j }

-- the last word about a goal, or that there is none
pub last_word : (told : List Answer) (g : GoalName) → ((j : Judgement) × IsTold told g j) ⊎ ((a : Answer) → In a told → a.goal ≢ g)
last_word [] g = inr (λ a i. absurd i)
last_word (a ∷ told) g = elim (last_word told g) [
  | inl q ↦ inl (q.0, (a ∷ q.1.0, q.1.1, ap (λ l. a ∷ l) q.1.2, q.1.3))
  | inr none ↦ elim (goal_or_not a.goal g) [
    | inl same ↦ inl (a.judgement, ([], told, ap (λ z. word z a.judgement ∷ told) same, none))
    | inr other ↦ inr (λ b i. elim i [ inl e ↦ (λ same. other (ap (λ (z : Answer). z.goal) (sym e) ∙ same)) | inr j ↦ none b j ])
  ]
]

-- a word about a goal that stands in the list
word_in : (earlier later : List Answer) (a : Answer) → In a (earlier ++ a ∷ later)
word_in earlier later a = in_right earlier (a ∷ later) a (inl refl)

tails : {a b : Answer} {xs ys : List Answer} → a ∷ xs ≡ b ∷ ys → (a ≡ b) × (xs ≡ ys)
tails {a = a} {b = b} {xs = xs} {ys = ys} e = let h : a ≡ b = cc in let r : xs ≡ ys = cc in (h, r)

-- there is one last word
pub told_once : (told : List Answer) (g : GoalName) (j k : Judgement) → IsTold told g j → IsTold told g k → j ≡ k
told_once told g j k (xs, ls, is, none) (ys, ms, same, never) = by_fronts xs ys told is same
  where
    by_fronts : (xs ys told : List Answer) → told ≡ xs ++ word g j ∷ ls → told ≡ ys ++ word g k ∷ ms → j ≡ k
    by_fronts [] [] told is same = ap (λ (z : Answer). z.judgement) (tails (sym is ∙ same)).0
    by_fronts [] (y ∷ ys) told is same = absurd (none (word g k) (subst (In (word g k)) (sym (tails (sym is ∙ same)).1) (word_in ys ms (word g k))) refl)
    by_fronts (x ∷ xs) [] told is same = absurd (never (word g j) (subst (In (word g j)) (sym (tails (sym same ∙ is)).1) (word_in xs ls (word g j))) refl)
    by_fronts (x ∷ xs) (y ∷ ys) told is same = by_fronts xs ys (xs ++ word g j ∷ ls) refl (tails (sym is ∙ same)).1

-- one answer more is the last word about its goal, and no other
module _ (told : List Answer) (g : GoalName) (j : Judgement) where
  abbrev more : List Answer
  more = told ++ word g j ∷ []

  pub told_now : IsTold more g j
  told_now = (told, [], refl, λ a i. absurd i)

  pub told_before : (k : GoalName) (l : Judgement) → k ≢ g → IsTold told k l → IsTold more k l
  told_before k l other (earlier, later, is, none) = (
    earlier,
    later ++ word g j ∷ [],
    ap (λ z. z ++ word g j ∷ []) is ∙ append_assoc earlier (word k l ∷ later) (word g j ∷ []),
    λ a i. elim (in_more later (word g j) a i) [ inl m ↦ none a m | inr same ↦ λ e. other (sym e ∙ ap (λ (z : Answer). z.goal) same) ],
  )

  pub told_still : (k : GoalName) (l : Judgement) → k ≢ g → IsTold more k l → IsTold told k l
  told_still k l other now = elim (last_word told k) [
    | inl q ↦ subst (IsTold told k) (told_once more k q.0 l (told_before k q.0 other q.1) now) q.1
    | inr none ↦ elim (in_more told (word g j) (word k l) (subst (In (word k l)) (sym now.2) (word_in now.0 now.1 (word k l)))) [
      | inl i ↦ absurd (none (word k l) i refl)
      | inr same ↦ absurd (other (ap (λ (z : Answer). z.goal) same))
    ]
  ]

not_both : ¬ (Right ≡ Wrong)
not_both e = cc

module _ (P : Program) (query : Query) (rs : List Record) (t : State) (target : Option GoalName) (replay : Replays P query rs t) where
  abbrev Open : List Answer → Option GoalName → GoalName → Type 0
  Open told top g = IsInQuestion rs t target told top g

  -- what is below a call that is below the top is below the top
  below_on : (top : Option GoalName) (g h : GoalName) → IsBelow rs top g → Descends rs g h → IsBelow rs top h
  below_on None g h b d = tt
  below_on (Some top) g h b d = (
    descends_on rs top g h b.0 d,
    λ same. b.1 (no_circle P query rs t replay top g b.0 (subst (λ z. Descends rs g z) same d)),
  )

  -- what is above a goal that a step made is that goal, or above the one that the step took
  step_above : (r : Record) (g h k : GoalName) → In r rs → r.goal ≡ Some g → MakesGoal r h → Descends rs k h → (k ≡ h) ⊎ Descends rs k g
  step_above r g h k i took makes itself = inl refl
  step_above r g h k i took makes (made_by {h = m} q j makes' took' d) =
      let one = maker_once P query rs t replay q r h j i makes' makes in
      inr (subst (λ z. Descends rs k z) (same_value (sym (ap (λ (z : Record). z.goal) one) ∙ took') took) d)

  -- nothing is above a goal that only steps made that took no goal
  query_above : (h k : GoalName) → ((r : Record) → In r rs → MakesGoal r h → r.goal ≡ None) → Descends rs k h → k ≡ h
  query_above h k of_query itself = refl
  query_above h k of_query (made_by q j makes took d) = let clash : None ≡ Some _ = sym (of_query q j makes) ∙ took in cc

  module _ (told : List Answer) where
    pub not_right : (top : Option GoalName) (g : GoalName) → Open told top g → ¬ IsTold told g Right
    not_right top g q = q.2 g q.1 itself

    -- what is in question below a call in question is in question below the top
    pub open_on : (top : Option GoalName) (g h : GoalName) → Open told top g → Open told (Some g) h → Open told top h
    open_on top g h q p = (
      p.0,
      below_on top g h q.1 p.1.0,
      λ k below d right. elim (in_line P query rs t replay k g h d p.1.0) [
        | inl above ↦ q.2 k below above right
        | inr under ↦ elim (goal_or_not k g) [
          | inl same ↦ q.2 k below (subst (λ z. Descends rs z g) (sym same) itself) right
          | inr other ↦ p.2 k (under, other) d right
        ]
      ],
    )

    -- the call that was told wrong last was told wrong
    pub told_wrong : (top : Option GoalName) (g : GoalName) → IsLastWrong rs t target told top g → IsTold told g Wrong
    told_wrong top g (q, earlier, later, is, last) = elim (last_word later g) [
      | inr none ↦ (earlier, later, is, none)
      | inl w ↦ by_word w.0 w.1
    ]
      where
        on : (j : Judgement) → IsTold later g j → IsTold told g j
        on j (front, back, e, none) = (
          earlier ++ word g Wrong ∷ front,
          back,
          is ∙ ap (λ z. earlier ++ word g Wrong ∷ z) e ∙ sym (append_assoc earlier (word g Wrong ∷ front) (word g j ∷ back)),
          none,
        )

        by_word : (j : Judgement) → IsTold later g j → IsTold told g Wrong
        by_word Right w = absurd (not_right top g q (on Right w))
        by_word Wrong w = absurd (last (word g Wrong) (subst (In (word g Wrong)) (sym w.2) (word_in w.0 w.1 (word g Wrong))) refl q)

    -- a call that is in question below a top so reached is in question below the query
    pub open_from_query : (top : Option GoalName) (g : GoalName) → IsReached rs t target told top → Open told top g → Open told None g
    open_from_query None g from_query q = q
    open_from_query (Some top) g (by_wrong {top = up} h reached last) q = open_from_query up g reached (open_on up top g last.0 q)

    -- ---- what is said to be at fault

    module _ (right : GoalName → Bool) (accords : Accords right told) where
      -- a call that the step of a goal made, or the query, where nothing is in question below
      judged : (h : GoalName) → ¬ ¬ IsTold told h Right → IsTrue (right h)
      judged h sure = elim (last_word told h) [
        | inl q ↦ by_word q.0 q.1
        | inr none ↦ absurd (sure (λ r. none (word h Right) (subst (In (word h Right)) (sym r.2) (word_in r.0 r.1 (word h Right))) refl))
      ]
        where
          by_word : (j : Judgement) → IsTold told h j → IsTrue (right h)
          by_word Right w = accords.0 h w
          by_word Wrong w = absurd (sure (λ r. not_both (told_once told h Right Wrong r w)))

      pub at_fault : (top : Option GoalName) → IsFault rs t target told top → IsJudgedAtFault rs t target right top
      at_fault (Some g) ((by_wrong {top = up} h reached last, none_wrong), none) = (
        accords.1 g (told_wrong up g last),
        λ r h i took makes is_call. judged h (λ not. none h (
          is_call,
          (made_by r i makes took itself, λ same. no_way_back P query rs t replay r g h i took makes (subst (λ z. Descends rs z g) (sym same) itself)),
          λ k below d told_right. elim (step_above r g h k i took makes d) [
            | inl same ↦ not (subst (λ z. IsTold told z Right) same told_right)
            | inr up ↦ below.1 (sym (no_circle P query rs t replay k g up below.0))
          ],
        )),
      )
      at_fault None (top, none) = λ h is_call of_query. judged h (λ not. none h (is_call, tt, λ k below d told_right. not (subst (λ z. IsTold told z Right) (query_above h k of_query d) told_right)))

  -- ---- one answer more

  module _ (told : List Answer) (g : GoalName) (j : Judgement) (top : Option GoalName) (q : Open told top g) where
    abbrev after : List Answer
    after = more told g j

    -- nothing else was told right or is it no more
    right_still : (k : GoalName) → IsTold told k Right → IsTold after k Right
    right_still k r = told_before told g j k Right (λ same. not_right told top g q (subst (λ z. IsTold told z Right) same r)) r

    pub open_before : (up : Option GoalName) (h : GoalName) → Open after up h → Open told up h
    open_before up h p = (p.0, p.1, λ k below d r. p.2 k below d (right_still k r))

    -- a call stays in question where the goal told of is not above it
    open_still : (up : Option GoalName) (h : GoalName) → ¬ (IsTold after g Right × Descends rs g h) → Open told up h → Open after up h
    open_still up h not p = (
      p.0,
      p.1,
      λ k below d r. elim (goal_or_not k g) [
        | inl same ↦ not (subst (λ z. IsTold after z Right) same r, subst (λ z. Descends rs z h) same d)
        | inr other ↦ p.2 k below d (told_still told g j k Right other r)
      ],
    )

    -- a call that was told wrong last stays so, where the goal told of is below it and right
    last_still : (right : j ≡ Right) (up : Option GoalName) (h : GoalName) → Descends rs h g → g ≢ h → IsLastWrong rs t target told up h → IsLastWrong rs t target after up h
    last_still right up h d other (p, earlier, later, is, last) = (
      open_still up h (λ r. other (sym (no_circle P query rs t replay g h r.1 d))) p,
      earlier,
      later ++ word g j ∷ [],
      ap (λ z. z ++ word g j ∷ []) is ∙ append_assoc earlier (word h Wrong ∷ later) (word g j ∷ []),
      λ a i wrong r. elim (in_more later (word g j) a i) [
        | inl m ↦ last a m wrong (open_before up a.goal r)
        | inr same ↦ not_both (sym right ∙ sym (ap (λ (z : Answer). z.judgement) same) ∙ wrong)
      ],
    )

    reached_still : (right : j ≡ Right) (up : Option GoalName) → IsReached rs t target told up → IsBelow rs up g → IsReached rs t target after up
    reached_still right None from_query b = from_query
    reached_still right (Some h) (by_wrong {top = up} _ reached last) b = by_wrong h (reached_still right up reached (below_on up h g last.0.1 b.0)) (last_still right up h b.0 b.1 last)

    goes_on_right : (right : j ≡ Right) → IsTop rs t target told top → GoesOn rs t target told after top g
    goes_on_right right (reached, none) = record {
      new = top;
      is_top = (
        reached_still right top reached q.1,
        λ a i wrong r. elim (in_more told (word g j) a i) [
          | inl m ↦ none a m wrong (open_before top a.goal r)
          | inr same ↦ not_both (sym right ∙ sym (ap (λ (z : Answer). z.judgement) same) ∙ wrong)
        ],
      );
      answered = λ r. not_right after top g r (subst (λ z. IsTold after g z) right (told_now told g j));
      fewer = λ h r. open_before top h r;
    }

    goes_on_wrong : (wrong : j ≡ Wrong) → IsTop rs t target told top → GoesOn rs t target told after top g
    goes_on_wrong wrong (reached, none) = record {
      new = Some g;
      is_top = (
        by_wrong g from_query (
          open_still None g (λ r. never r.0) (open_from_query told top g reached q),
          told,
          [],
          ap (λ z. told ++ word g z ∷ []) wrong,
          λ a i. absurd i,
        ),
        λ a i bad r. elim (in_more told (word g j) a i) [
          | inl m ↦ none a m bad (open_on told top g a.goal q (open_before (Some g) a.goal r))
          | inr same ↦ r.1.1 (ap (λ (z : Answer). z.goal) same)
        ],
      );
      answered = λ r. r.1.1 refl;
      fewer = λ h r. open_on told top g h q (open_before (Some g) h r);
    }
      where
        never : ¬ IsTold after g Right
        never r = not_both (told_once after g Right j r (told_now told g j) ∙ wrong)

  pub goes_on : (told : List Answer) (top : Option GoalName) (g : GoalName) (j : Judgement) → IsTop rs t target told top → Open told top g → GoesOn rs t target told (told ++ word g j ∷ []) top g
  goes_on told top g Right is_top q = goes_on_right told g Right top q refl is_top
  goes_on told top g Wrong is_top q = goes_on_wrong told g Wrong top q refl is_top

-- ---- one top

module _ (rs : List Record) (t : State) (target : Option GoalName) (told : List Answer) where
  abbrev Last : Option GoalName → GoalName → Type 0
  Last up g = IsLastWrong rs t target told up g

  last_once : (up : Option GoalName) (g h : GoalName) → Last up g → Last up h → g ≡ h
  last_once up g h (q, xs, ls, is, last) (p, ys, ms, same, least) = by_fronts xs ys told is same
    where
      by_fronts : (xs ys told : List Answer) → told ≡ xs ++ word g Wrong ∷ ls → told ≡ ys ++ word h Wrong ∷ ms → g ≡ h
      by_fronts [] [] told is same = ap (λ (z : Answer). z.goal) (tails (sym is ∙ same)).0
      by_fronts [] (y ∷ ys) told is same = absurd (last (word h Wrong) (subst (In (word h Wrong)) (sym (tails (sym is ∙ same)).1) (word_in ys ms (word h Wrong))) refl p)
      by_fronts (x ∷ xs) [] told is same = absurd (least (word g Wrong) (subst (In (word g Wrong)) (sym (tails (sym same ∙ is)).1) (word_in xs ls (word g Wrong))) refl q)
      by_fronts (x ∷ xs) (y ∷ ys) told is same = by_fronts xs ys (xs ++ word g Wrong ∷ ls) refl (tails (sym is ∙ same)).1

  -- one goes down from one top to another, each time to the call told wrong last
  data GoesDown (up : Option GoalName) : Option GoalName → Type 0 where
    stays : GoesDown up up
    goes : {mid : Option GoalName} (g : GoalName) → GoesDown up mid → Last mid g → GoesDown up (Some g)

  from_top : (top : Option GoalName) → IsReached rs t target told top → GoesDown None top
  from_top None from_query = stays
  from_top (Some g) (by_wrong {top = up} _ reached last) = goes g (from_top up reached) last

  -- the first step down
  first_down : (up top : Option GoalName) → GoesDown up top → (top ≡ up) ⊎ ((g : GoalName) × Last up g × GoesDown (Some g) top)
  first_down up top stays = inl refl
  first_down up top (goes {mid = mid} g d last) = elim (first_down up mid d) [
    | inl same ↦ inr (g, subst (λ z. Last z g) same last, stays)
    | inr p ↦ inr (p.0, p.1, goes g p.2 last)
  ]

  one_way : (up one other : Option GoalName) → GoesDown up one → GoesDown up other → GoesDown one other ⊎ GoesDown other one
  one_way up one other d stays = inr d
  one_way up one other d (goes {mid = mid} g e last) = elim (one_way up one mid d e) [
    | inl down ↦ inl (goes g down last)
    | inr back ↦ elim (first_down mid one back) [
      | inl same ↦ inl (subst (λ z. GoesDown z (Some g)) (sym same) (goes g stays last))
      | inr p ↦ inr (subst (λ z. GoesDown (Some z) one) (last_once mid p.0 g p.1 last) p.2)
    ]
  ]

  ends : (one other : Option GoalName) → IsTop rs t target told one → GoesDown one other → one ≡ other
  ends one other top d = elim (first_down one other d) [
    | inl same ↦ sym same
    | inr p ↦
        let last = p.1 in
        absurd (top.1 (word p.0 Wrong) (subst (In (word p.0 Wrong)) (sym last.3) (word_in last.1 last.2 (word p.0 Wrong))) refl last.0)
  ]

  pub one_top : (one other : Option GoalName) → IsTop rs t target told one → IsTop rs t target told other → one ≡ other
  one_top one other a b = elim (one_way None one other (from_top one a.0) (from_top other b.0)) [ inl d ↦ ends one other a d | inr d ↦ sym (ends other one b d) ]

pub sound : BlameIsSound
sound P query rs t target told top right replay fault accords = at_fault P query rs t target replay told right accords top fault

pub on : BlameGoesOn
on P query rs t target told top g j replay is_top q = goes_on P query rs t target replay told top g j is_top q

pub one : BlameHasOneTop
one P query rs t target told a b replay = one_top rs t target told a b
