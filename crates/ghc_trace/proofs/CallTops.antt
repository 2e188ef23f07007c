-- Of the calls in question the one that was told wrong last: from the last call on, each hands it to its maker, and the way down from the query ends at the top.
use Rattle.ghc_trace.proofs.Words.{◌≡◌, ◌≢◌, ℕ, zero, suc, ◌+◌, ◌-◌, ◌<◌, ◌≤◌, ◌⊎◌, ◌↔◌, List, [], ◌∷◌, ◌++◌, length, get_or, take, drop, refl, sym, ap, ◌∙◌, subst, inl, inr, arith, Option, Some, None, cases_eq, slice_get, slice_get_within, GoalName, In, Program, Query, State, Record, Replays, same_value}
use Rattle.std.specs.List.{slice_set}
use Rattle.std.specs.Prelude.{IfNone, IfSome, replicate}
use Rattle.std.proofs.lemmas.List.{get_or-replicate, length-replicate, length-set}
use Rattle.std.proofs.lemmas.Option.{get_or_from_slice_get, slice_get-get_or}
use Rattle.ghc_term.proofs.ListsLemmas.{at_of_in, splits_at}
use Rattle.ghc_term.proofs.Placing.{set_other, set_same}
use Rattle.ghc_trace.proofs.CallPlaces.{at_last, at_left, at_more}
use Rattle.ghc_trace.proofs.CallsBelow.{in_question_if, next_of, not_right, still_so}
use Rattle.ghc_trace.specs.Blaming.{IsInQuestion, IsLastWrong, IsReached, IsTold, IsTop, by_wrong, from_query}
use Rattle.ghc_trace.specs.declared.answered.ToldWrong.{ToldWrong}
use Rattle.ghc_trace.specs.declared.judgements.Answer.{Answer}
use Rattle.ghc_trace.specs.declared.judgements.Judgement.TheVariants.{Right, Wrong}
use Rattle.ghc_trace.specs.declared.slice_calls.Call.{Call}
use Rattle.ghc_trace.specs.declared.tops.LastBelow.{LastBelow}
use Rattle.ghc_trace.specs.inner.BlameCode.{AreCallsOf, AreToldWrong, AreLastBelow, ComesAfter, HasNothing, IsLaterOf, IsNameOfTop, IsNotEarlier, IsNotedFor, IsToldWrong, IsLastOf, NotesAnswer, NotesLater, StandAtTheirPlaces, StandBelow, StandsAtPlace}

-- ---- the one that was told wrong last

-- A wider property has the call too.
wider : (calls : List Call) (told : List Answer) (Q R : GoalName → Type 0) → ((g : GoalName) → Q g → R g) → (o : Option ToldWrong) → IfSome o (IsToldWrong calls told Q) → IfSome o (IsToldWrong calls told R)
wider calls told Q R on None h = tt
wider calls told Q R on (Some w) (c, at, q, is) = (c, at, on c.name q, is)

-- Of the same goals it is the same.
pub last_as : (calls : List Call) (told : List Answer) (Q R : GoalName → Type 0) (o : Option ToldWrong) → ((g : GoalName) → Q g ↔ R g) → IsLastOf calls told Q o → IsLastOf calls told R o
last_as calls told Q R o same (here, after) = (wider calls told Q R (λ g q. (same g).0 q) o here, λ j a behind at wrong r. after j a behind at wrong ((same a.goal).1 r))

-- Of no goals it is none.
pub last_none : (calls : List Call) (told : List Answer) (Q : GoalName → Type 0) → ((g : GoalName) → ¬ Q g) → IsLastOf calls told Q None
last_none calls told Q none = (tt, λ j a behind at wrong q. none a.goal q)

after_later : (a o : Option ToldWrong) (j : ℕ) → IsNotEarlier a o → ComesAfter o j → ComesAfter a j
after_later None o j over behind = tt
after_later (Some w) None j over behind = absurd over
after_later (Some w) (Some v) j over behind = omega (arith, over, behind)

-- Of both properties' goals it is the later of the two.
pub last_both : (calls : List Call) (told : List Answer) (Q R : GoalName → Type 0) (a b o : Option ToldWrong) → IsLaterOf a b o → IsLastOf calls told Q a → IsLastOf calls told R b
    → IsLastOf calls told (λ g. Q g ⊎ R g) o
last_both calls told Q R a b o (chosen, over_a, over_b) (here, after) (there, behind) = (
  elim chosen [
    | inl same ↦ subst (λ z. IfSome z (IsToldWrong calls told (λ g. Q g ⊎ R g))) (sym same) (wider calls told Q (λ g. Q g ⊎ R g) (λ g q. inl q) a here)
    | inr same ↦ subst (λ z. IfSome z (IsToldWrong calls told (λ g. Q g ⊎ R g))) (sym same) (wider calls told R (λ g. Q g ⊎ R g) (λ g r. inr r) b there)
  ],
  λ j x later at wrong either. elim either [
    | inl q ↦ after j x (after_later a o j over_a later) at wrong q
    | inr r ↦ behind j x (after_later b o j over_b later) at wrong r
  ],
)

-- ---- what each answer tells

-- An answer more that tells none of the goals wrong changes nothing.
pub last_still : (calls : List Call) (told : List Answer) (a : Answer) (Q : GoalName → Type 0) (o : Option ToldWrong) → (a.judgement ≡ Wrong → ¬ Q a.goal) → IsLastOf calls told Q o
    → IsLastOf calls (told ++ a ∷ []) Q o
last_still calls told a Q o none (here, after) = (
  kept o here,
  λ j b behind at wrong q. elim (at_more told a b j at) [
    | inl old ↦ after j b behind old wrong q
    | inr new ↦ none (ap (λ (z : Answer). z.judgement) (sym new.1) ∙ wrong) (subst (λ (z : Answer). Q z.goal) new.1 q)
  ],
)
  where
    kept : (o : Option ToldWrong) → IfSome o (IsToldWrong calls told Q) → IfSome o (IsToldWrong calls (told ++ a ∷ []) Q)
    kept None h = tt
    kept (Some w) (c, at, q, is) = (c, at, q, at_left told a w.answer (record { goal = c.name; judgement = Wrong }) is)

-- One that tells a call wrong is the last that does.
pub last_now : (calls : List Call) (told : List Answer) (a : Answer) (p : ℕ) (c : Call) → StandsAtPlace calls p c → a ≡ record { goal = c.name; judgement = Wrong }
    → IsLastOf calls (told ++ a ∷ []) (λ g. g ≡ c.name) (Some (record { call = p; answer = length told }))
last_now calls told a p c at is = (
  (c, at, refl, at_last told a ∙ ap Some is),
  λ j b behind there wrong same. elim (at_more told a b j there) [
    | inl old ↦ let low = slice_get_within told j b old in omega (arith, behind, low)
    | inr new ↦ let here = new.0 in omega (arith, behind, here)
  ],
)

-- What stands in a list of nothing is nothing.
pub nothing_there : (count i : ℕ) (o : Option ToldWrong) → slice_get (replicate count None) i ≡ Some o → o ≡ None
nothing_there count i o there =
    let within = slice_get_within (replicate count None) i o there in
    let nothing : List (Option ToldWrong) = replicate count None in
    let long : length nothing ≡ count = length-replicate count None in
    sym (get_or_from_slice_get (replicate count None) i o None there) ∙ get_or-replicate count i None None (omega (arith, within, long))

-- Before the first answer none was told wrong.
pub none_told : (calls : List Call) (count : ℕ) → AreToldWrong calls [] (replicate count None)
none_told calls count i c o at there = subst (IsLastOf calls [] (λ g. g ≡ c.name)) (sym (nothing_there count i o there)) (tt, λ j a behind at_j wrong same. let clash : None ≡ Some a = at_j in cc)

-- With one answer more, it is noted under the place of the call that this one tells wrong, if it tells one of them wrong.
module _ (calls : List Call) (told : List Answer) (a : Answer) (wrong : List (Option ToldWrong)) (long : length wrong ≡ length calls) where
  abbrev pub IsWrongAt : ℕ → Type 0
  IsWrongAt p = (a.judgement ≡ Wrong) × ((c : Call) × StandsAtPlace calls p c × (c.name ≡ a.goal))

  abbrev pub IsWrongNowhere : Type 0
  IsWrongNowhere = a.judgement ≡ Wrong → (i : ℕ) (c : Call) → StandsAtPlace calls i c → c.name ≢ a.goal

  pub wrong_within : (place : Option ℕ) → IfSome place IsWrongAt → IfSome place (λ p. p < length wrong)
  wrong_within None found = tt
  wrong_within (Some p) found = let low = slice_get_within calls p found.1.0 found.1.1 in omega (arith, low, long)

  -- the answer tells the call at p wrong
  module _ (p : ℕ) (found : IsWrongAt p) where
    abbrev now : Option ToldWrong
    now = Some (record { call = p; answer = length told })

    stands_there : slice_get (slice_set wrong p now) p ≡ Some now
    stands_there = set_same wrong p now (wrong_within (Some p) found)

    is_word : a ≡ record { goal = found.1.0.name; judgement = Wrong }
    is_word i = record { goal = sym found.1.2 i; judgement = found.0 i }

    told_now : ((i j : ℕ) (c d : Call) → StandsAtPlace calls i c → StandsAtPlace calls j d → c.name ≡ d.name → i ≡ j) → AreToldWrong calls told wrong → AreToldWrong calls (told ++ a ∷ []) (slice_set wrong p now)
    told_now once h i d o at_d there = elim (cases_eq i p) [
      | inl same ↦
          let one : d ≡ found.1.0 = same_value (subst (λ z. StandsAtPlace calls z d) same at_d) found.1.1 in
          let value : o ≡ now = same_value (subst (λ z. slice_get (slice_set wrong p now) z ≡ Some o) same there) stands_there in
          subst (IsLastOf calls (told ++ a ∷ []) (λ g. g ≡ d.name)) (sym value)
          (subst (λ (z : Call). IsLastOf calls (told ++ a ∷ []) (λ g. g ≡ z.name) now) (sym one) (last_now calls told a p found.1.0 found.1.1 is_word))
      | inr other ↦
          let old : slice_get wrong i ≡ Some o = sym (set_other wrong p i now other) ∙ there in
          last_still calls told a (λ g. g ≡ d.name) o (λ _ same. other (once i p d found.1.0 at_d found.1.1 (sym same ∙ sym found.1.2))) (h i d o at_d old)
    ]

    places_now : StandAtTheirPlaces wrong → StandAtTheirPlaces (slice_set wrong p now)
    places_now h i w there = elim (cases_eq i p) [
      | inl same ↦
          let value : Some w ≡ now = same_value (subst (λ z. slice_get (slice_set wrong p now) z ≡ Some (Some w)) same there) stands_there in
          let one : w ≡ record { call = p; answer = length told } = cc in
          ap (λ (z : ToldWrong). z.call) one ∙ sym same
      | inr other ↦ h i w (sym (set_other wrong p i now other) ∙ there)
    ]

  module _ (new : List (Option ToldWrong)) where
    pub as_long : (place : Option ℕ) → NotesAnswer place (length told) wrong new → length new ≡ length calls
    as_long None same = ap (λ (l : List (Option ToldWrong)). length l) same ∙ long
    as_long (Some p) same = ap (λ (l : List (Option ToldWrong)). length l) same ∙ length-set wrong p (Some (record { call = p; answer = length told })) ∙ long

    pub places_more : (place : Option ℕ) → IfSome place IsWrongAt → NotesAnswer place (length told) wrong new → StandAtTheirPlaces wrong → StandAtTheirPlaces new
    places_more None found same h = subst StandAtTheirPlaces (sym same) h
    places_more (Some p) found same h = subst StandAtTheirPlaces (sym same) (places_now p found h)

    pub told_more : ((i j : ℕ) (c d : Call) → StandsAtPlace calls i c → StandsAtPlace calls j d → c.name ≡ d.name → i ≡ j) → (place : Option ℕ) → IfSome place IsWrongAt → IfNone place IsWrongNowhere
        → NotesAnswer place (length told) wrong new → AreToldWrong calls told wrong → AreToldWrong calls (told ++ a ∷ []) new
    told_more once None found none same h =
        subst (AreToldWrong calls (told ++ a ∷ [])) (sym same) (λ i c o at there. last_still calls told a (λ g. g ≡ c.name) o (λ is e. none is i c at (sym e)) (h i c o at there))
    told_more once (Some p) found none same h = subst (AreToldWrong calls (told ++ a ∷ [])) (sym same) (told_now p found once h)

-- What stands at a place is of the call there.
pub own_place : (wrong : List (Option ToldWrong)) → StandAtTheirPlaces wrong → (i : ℕ) (o : Option ToldWrong) → slice_get wrong i ≡ Some o → IfSome o (λ w. w.call ≡ i)
own_place wrong h i None there = tt
own_place wrong h i (Some w) there = h i w there

-- ---- what is noted for the query and for each call

same_place : (a b : Option ℕ) → (a ≡ b) ⊎ (a ≢ b)
same_place None None = inl refl
same_place None (Some b) = inr (λ e. let clash : None ≡ Some b = e in cc)
same_place (Some a) None = inr (λ e. let clash : None ≡ Some a = sym e in cc)
same_place (Some a) (Some b) = elim (cases_eq a b) [ inl e ↦ inl (ap Some e) | inr other ↦ inr (λ e. let same : a ≡ b = cc in other same) ]

-- Something, or nothing, is noted for each.
noted_there : (last : LastBelow) (place : Option ℕ) → IfSome place (λ p. p < length last.calls.items) → (o : Option ToldWrong) × IsNotedFor last place o
noted_there last None low = (last.query, refl)
noted_there last (Some p) low = (get_or last.calls.items p None, slice_get-get_or last.calls.items p None low)

pub within_more : (place : Option ℕ) (j n : ℕ) → j < n → IfSome place (λ p. p < j) → IfSome place (λ p. p < n)
within_more None j n low h = tt
within_more (Some p) j n low h = omega (arith, low, h)

-- At first nothing is noted.
pub below_none : (count : ℕ) (last : LastBelow) → HasNothing count last → StandBelow count last
below_none count last h = record { long = h.0; below = λ place w noted. let clash : None ≡ Some w = sym (h.1 place (Some w) noted) in cc }

-- Of what is told of a call and what is noted for it, the later stands there or below.
pub later_within : (count j : ℕ) (last : LastBelow) (below own mine : Option ToldWrong) → j < count → StandBelow count last → IsNotedFor last (Some j) below → IfSome own (λ w. w.call ≡ j)
    → IsLaterOf below own mine → IfSome mine (λ w. (j ≤ w.call) × (w.call < count))
later_within count j last below own mine low h noted at_j later = elim later.0 [
  | inl same ↦ subst (λ z. IfSome z (λ w. (j ≤ w.call) × (w.call < count))) (sym same) (of_below below noted)
  | inr same ↦ subst (λ z. IfSome z (λ w. (j ≤ w.call) × (w.call < count))) (sym same) (of_own own at_j)
]
  where
    of_below : (o : Option ToldWrong) → IsNotedFor last (Some j) o → IfSome o (λ w. (j ≤ w.call) × (w.call < count))
    of_below None is = tt
    of_below (Some w) is = let b = h.below (Some j) w is in let first = b.0 in let then = b.1 in (omega (arith, then), first)

    of_own : (o : Option ToldWrong) → IfSome o (λ w. w.call ≡ j) → IfSome o (λ w. (j ≤ w.call) × (w.call < count))
    of_own None is = tt
    of_own (Some w) is = (omega (arith, is), omega (arith, is, low))

-- The later is noted for the maker.
pub below_more : (count j : ℕ) (maker : Option ℕ) (old new : LastBelow) (mine : Option ToldWrong) → j < count → StandBelow count old → IfSome maker (λ p. p < j)
    → IfSome mine (λ w. (j ≤ w.call) × (w.call < count)) → NotesLater maker mine old new → StandBelow count new
below_more count j maker old new mine low h before within notes = record {
  long = notes.0 ∙ h.long;
  below = λ place w now. elim (same_place place maker) [
    | inl same ↦
        let v = noted_there old maker (subst (λ n. IfSome maker (λ p. p < n)) (sym h.long) (within_more maker j count low before)) in
        let later = notes.1 v.0 (Some w) v.1 (subst (λ p. IsNotedFor new p (Some w)) same now) in
        subst (λ o. (w.call < count) × IfSome o (λ p. p < w.call)) (sym same) (elim later.0 [
          | inl is_old ↦ h.below maker w (subst (IsNotedFor old maker) (sym is_old) v.1)
          | inr is_mine ↦ let m = subst (λ z. IfSome z (λ w. (j ≤ w.call) × (w.call < count))) (sym is_mine) within in (m.1, behind maker w m.0 before)
        ])
    | inr other ↦ h.below place w (notes.2 place (Some w) other now)
  ];
}
  where
    behind : (o : Option ℕ) (w : ToldWrong) → j ≤ w.call → IfSome o (λ p. p < j) → IfSome o (λ p. p < w.call)
    behind None w high first = tt
    behind (Some p) w high first = omega (arith, high, first)

-- x is a call with this maker that stands at `from` or later and was not told right, or is in question below such a call.
abbrev pub IsBelowFrom : List Record → State → Option GoalName → List Answer → List Call → ℕ → Option ℕ → GoalName → Type 0
IsBelowFrom rs t target told calls from maker x = (j : ℕ) × (d : Call) × (from ≤ j) × StandsAtPlace calls j d × (d.maker ≡ maker) × (¬ IsTold told d.name Right)
    × (IsInQuestion rs t target told (Some d.name) x ⊎ (x ≡ d.name))

-- The calls from this place on have handed to their makers which was told wrong last.
abbrev pub AreHandedFrom : List Record → State → Option GoalName → List Answer → List Call → ℕ → LastBelow → Type 0
AreHandedFrom rs t target told calls from last = (place : Option ℕ) (o : Option ToldWrong) → IsNotedFor last place o → IsLastOf calls told (IsBelowFrom rs t target told calls from place) o

module _ (P : Program) (query : Query) (rs : List Record) (t : State) (replay : Replays P query rs t) (target : Option GoalName) (calls : List Call) (h : AreCallsOf rs t target calls) (told : List Answer) where
  -- What is in question below a top is so by a call that has this maker.
  module _ (place : Option ℕ) (top : Option GoalName) (named : IsNameOfTop calls place top) (from : ℕ) (first : (j : ℕ) (d : Call) → StandsAtPlace calls j d → d.maker ≡ place → from ≤ j) where
    right_below : (j : ℕ) (d : Call) → StandsAtPlace calls j d → d.maker ≡ place → ¬ IsTold told d.name Right → IsInQuestion rs t target told top d.name
    right_below j d at made not = in_question_if P query rs t replay target calls h told place top named j d at (by_place place made) not
      where
        by_place : (o : Option ℕ) → d.maker ≡ o → ((d.maker ≡ None) × (o ≡ None)) ⊎ ((p : ℕ) × (d.maker ≡ Some p) × ((o ≡ Some p) ⊎ ((e : Call) × StandsAtPlace calls p e × IsInQuestion rs t target told top e.name)))
        by_place None none = inl (none, refl)
        by_place (Some p) some = inr (p, some, inl refl)

    to_top : (x : GoalName) → IsBelowFrom rs t target told calls from place x → IsInQuestion rs t target told top x
    to_top x (j, d, low, at, made, not, either) = elim either [
      | inl q ↦ still_so P query rs t replay target calls h told top d.name x (right_below j d at made not) q
      | inr same ↦ subst (IsInQuestion rs t target told top) (sym same) (right_below j d at made not)
    ]

    -- What is in question below d is so above the call c that is made there.
    onward : (j : ℕ) (d : Call) → StandsAtPlace calls j d → (p : ℕ) (e : Call) → StandsAtPlace calls p e → IsInQuestion rs t target told (Some d.name) e.name ⊎ (e.name ≡ d.name)
        → (i : ℕ) (c : Call) → StandsAtPlace calls i c → c.maker ≡ Some p → ¬ IsTold told c.name Right → IsInQuestion rs t target told (Some d.name) c.name
    onward j d at p e at_e either i c at_c made not = in_question_if P query rs t replay target calls h told (Some j) (Some d.name) (d, at, refl) i c at_c (inr (
      p,
      made,
      elim either [
        | inl q ↦ inr (e, at_e, q)
        | inr same ↦ inl (ap Some (h.once j p d e at at_e (sym same)))
      ],
    )) not

    from_top : (n i : ℕ) (c : Call) → i < n → StandsAtPlace calls i c → IsInQuestion rs t target told top c.name → IsBelowFrom rs t target told calls from place c.name
    from_top zero i c low at q = absurd (omega (arith, low))
    from_top (suc n) i c low at q =
        let not = not_right P query rs t replay target calls h told place top named i c at q in
        elim (next_of P query rs t replay target calls h told place top named i c at q) [
          | inl (none, no_place) ↦ let made = none ∙ sym no_place in (i, c, first i c at made, at, made, not, inr refl)
          | inr (p, some, way) ↦ elim way [
            | inl is_top ↦ let made = some ∙ sym is_top in (i, c, first i c at made, at, made, not, inr refl)
            | inr (e, at_e, of_e) ↦
                let before = h.before i p c at some in
                let r = from_top n p e (omega (arith, before, low)) at_e of_e in
                (r.0, r.1, r.2, r.3, r.4, r.5, inl (onward r.0 r.1 r.3 p e at_e r.6 i c at some not))
          ]
        ]

    pub whole : (x : GoalName) → IsBelowFrom rs t target told calls from place x ↔ IsInQuestion rs t target told top x
    whole x = (
      to_top x,
      λ q.
          let w = (h.all x).0 q.0 in
          subst (IsBelowFrom rs t target told calls from place) w.3 (from_top (suc w.0) w.0 w.1 (omega arith) w.2 (subst (IsInQuestion rs t target told top) (sym w.3) q)),
    )

  -- At first none has handed anything.
  pub handed_first : (last : LastBelow) → HasNothing (length calls) last → AreHandedFrom rs t target told calls (length calls) last
  handed_first last nothing place o noted =
      subst (IsLastOf calls told (IsBelowFrom rs t target told calls (length calls) place)) (sym (nothing.1 place o noted)) (last_none calls told (IsBelowFrom rs t target told calls (length calls) place) (λ g (j, d, high, at, made, fine, either).
      let low = slice_get_within calls j d at in
      omega (arith, high, low)))

  -- In the end what is noted is the last of all in question.
  pub handed_all : (last : LastBelow) → AreHandedFrom rs t target told calls 0 last → AreLastBelow rs t target told calls last
  handed_all last handed place top o named noted =
      last_as calls told (IsBelowFrom rs t target told calls 0 place) (IsInQuestion rs t target told top) o (whole place top named 0 (λ j d at made. omega arith)) (handed place o noted)

  module _ (j : ℕ) (d : Call) (at_d : StandsAtPlace calls j d) where
    -- The call changes nothing for those that did not make it, nor for any if it was told right.
    as_before : (place : Option ℕ) → (d.maker ≡ place → IsTold told d.name Right) → (x : GoalName) → IsBelowFrom rs t target told calls (j + 1) place x ↔ IsBelowFrom rs t target told calls j place x
    as_before place right x = (
      (λ (k, e, high, at_e, made, fine, either). (k, e, omega (arith, high), at_e, made, fine, either)),
      (λ (k, e, high, at_e, made, not, either). elim (cases_eq k j) [
        | inl here ↦
            let one : e ≡ d = same_value (subst (λ z. StandsAtPlace calls z e) here at_e) at_d in
            absurd (not (subst (λ (z : Call). IsTold told z.name Right) (sym one) (right (ap (λ (z : Call). z.maker) (sym one) ∙ made))))
        | inr other ↦ (k, e, omega (arith, high, other), at_e, made, not, either)
      ]),
    )

    pub handed_still : (last : LastBelow) → IsTold told d.name Right → AreHandedFrom rs t target told calls (j + 1) last → AreHandedFrom rs t target told calls j last
    handed_still last right handed place o noted =
        last_as calls told (IsBelowFrom rs t target told calls (j + 1) place) (IsBelowFrom rs t target told calls j place) o (as_before place (λ made. right)) (handed place o noted)

    -- The maker has the call and what is below it besides.
    with_call : ¬ IsTold told d.name Right → (x : GoalName)
        → (IsBelowFrom rs t target told calls (j + 1) d.maker x ⊎ (IsInQuestion rs t target told (Some d.name) x ⊎ (x ≡ d.name))) ↔ IsBelowFrom rs t target told calls j d.maker x
    with_call not x = (
      (λ either. elim either [
        | inl (k, e, high, at_e, made, fine, either) ↦ (k, e, omega (arith, high), at_e, made, fine, either)
        | inr mine ↦ (j, d, omega arith, at_d, refl, not, mine)
      ]),
      (λ (k, e, high, at_e, made, fine, either). elim (cases_eq k j) [
        | inl here ↦
            let one : e ≡ d = same_value (subst (λ z. StandsAtPlace calls z e) here at_e) at_d in
            inr (subst (λ (z : Call). IsInQuestion rs t target told (Some z.name) x ⊎ (x ≡ z.name)) one either)
        | inr other ↦ inl (k, e, omega (arith, high, other), at_e, made, fine, either)
      ]),
    )

    -- The call hands to its maker what was told wrong later: itself, or what is noted for it.
    pub handed_more : (old new : LastBelow) (below own mine : Option ToldWrong) → IfSome d.maker (λ p. p < length old.calls.items) → ¬ IsTold told d.name Right
        → AreHandedFrom rs t target told calls (j + 1) old → IsNotedFor old (Some j) below → IsLastOf calls told (λ g. g ≡ d.name) own → IsLaterOf below own mine → NotesLater d.maker mine old new
        → AreHandedFrom rs t target told calls j new
    handed_more old new below own mine within not handed noted is_own later notes place o now = elim (same_place place d.maker) [
      | inl same ↦
          let v = noted_there old d.maker within in
          let of_below = last_as calls told (IsBelowFrom rs t target told calls (j + 1) (Some j)) (IsInQuestion rs t target told (Some d.name)) below
          (whole (Some j) (Some d.name) (d, at_d, refl) (j + 1) (λ k e at_e made. let after = h.before k j e at_e made in omega (arith, after))) (handed (Some j) below noted) in
          let of_mine = last_both calls told (IsInQuestion rs t target told (Some d.name)) (λ x. x ≡ d.name) below own mine later of_below is_own in
          let of_maker = notes.1 v.0 o v.1 (subst (λ p. IsNotedFor new p o) same now) in
          let joined =
          last_both calls told (IsBelowFrom rs t target told calls (j + 1) d.maker) (λ x. IsInQuestion rs t target told (Some d.name) x ⊎ (x ≡ d.name)) v.0 mine o of_maker (handed d.maker v.0 v.1) of_mine in
          subst (λ p. IsLastOf calls told (IsBelowFrom rs t target told calls j p) o) (sym same)
          (last_as calls told (λ x. IsBelowFrom rs t target told calls (j + 1) d.maker x ⊎ (IsInQuestion rs t target told (Some d.name) x ⊎ (x ≡ d.name))) (IsBelowFrom rs t target told calls j d.maker) o (with_call not) joined)
      | inr other ↦ last_as calls told (IsBelowFrom rs t target told calls (j + 1) place) (IsBelowFrom rs t target told calls j place) o (as_before place (λ made. absurd (other (sym made)))) (handed place o (notes.2 place o other now))
    ]

-- ---- the way down

-- The place is of a top that is reached, and this is the next one.
abbrev pub IsOnTheWay : List Record → State → Option GoalName → List Answer → List Call → Option ℕ → Option ToldWrong → Type 0
IsOnTheWay rs t target told calls place next = (top : Option GoalName) × IsNameOfTop calls place top × IsReached rs t target told top × IsLastOf calls told (IsInQuestion rs t target told top) next

-- how many calls are left, from the next one on
abbrev pub left_from : ℕ → Option ToldWrong → ℕ
left_from count None = 0
left_from count (Some w) = count - w.call

in_drop : {X : Type 0} (xs : List X) (n : ℕ) (x : X) → In x (drop n xs) → (i : ℕ) × (n ≤ i) × (slice_get xs i ≡ Some x)
in_drop xs zero x i = let r = at_of_in xs x i in (r.0, omega arith, r.1)
in_drop [] (suc n) x i = absurd i
in_drop (y ∷ xs) (suc n) x i = let r = in_drop xs n x i in let high = r.1 in (suc r.0, omega (arith, high), r.2)

module _ (rs : List Record) (t : State) (target : Option GoalName) (told : List Answer) (calls : List Call) (last : LastBelow) (are : AreLastBelow rs t target told calls last) where
  -- It begins at the query.
  pub way_begins : IsOnTheWay rs t target told calls None last.query
  way_begins = (None, refl, from_query, are None None last.query refl refl)

  -- It goes on to the next.
  pub way_goes_on : (place : Option ℕ) (w : ToldWrong) (next : Option ToldWrong) → IsOnTheWay rs t target told calls place (Some w) → slice_get last.calls.items w.call ≡ Some next
      → IsOnTheWay rs t target told calls (Some w.call) next
  way_goes_on place w next (top, named, reached, last_below) noted =
      let (c, at, q, here) = last_below.0 in
      let after = last_below.1 in
      let i = w.answer in
      let word : Answer = record { goal = c.name; judgement = Wrong } in
      let value : word ≡ get_or told i word = sym (get_or_from_slice_get told i word word here) in
      let split : told ≡ take i told ++ word ∷ drop (i + 1) told = splits_at told i word (slice_get_within told i word here) value in
      let wrong : IsLastWrong rs t target told top c.name = (q, take i told, drop (i + 1) told, split, λ b j. let at_b = in_drop told (i + 1) b j in let high = at_b.1 in after at_b.0 b (omega (arith, high)) at_b.2) in
      (Some c.name, (c, at, refl), by_wrong c.name reached wrong, are (Some w.call) (Some c.name) next (c, at, refl) noted)

  -- It ends at the top.
  pub way_ends : (place : Option ℕ) → IsOnTheWay rs t target told calls place None → (top : Option GoalName) × IsNameOfTop calls place top × IsTop rs t target told top
  way_ends place (top, named, reached, last_below) = (top, named, (reached, λ a i wrong. let at = at_of_in told a i in last_below.1 at.0 a tt at.1 wrong))

-- Each next one stands behind the one before.
module _ (last : LastBelow) (h : StandBelow (length last.calls.items) last) where
  pub first_within : IfSome last.query (λ w. w.call < length last.calls.items)
  first_within = by_query last.query refl
    where
      by_query : (o : Option ToldWrong) → last.query ≡ o → IfSome o (λ w. w.call < length last.calls.items)
      by_query None is = tt
      by_query (Some w) is = (h.below None w is).0

  pub next_within : (p : ℕ) (next : Option ToldWrong) → slice_get last.calls.items p ≡ Some next → IfSome next (λ w. w.call < length last.calls.items)
  next_within p None noted = tt
  next_within p (Some w) noted = (h.below (Some p) w noted).0

  pub fewer_left : (p : ℕ) (next : Option ToldWrong) → p < length last.calls.items → slice_get last.calls.items p ≡ Some next → left_from (length last.calls.items) next < length last.calls.items - p
  fewer_left p None low noted = omega (arith, low)
  fewer_left p (Some w) low noted = let b = h.below (Some p) w noted in let within = b.0 in let behind = b.1 in omega (arith, low, within, behind)
