-- What is known of a call of a slice that is told of.
use Rattle.std.specs.Prelude.{IsSome}
use Rattle.ghc_trace.proofs.Words.{◌≡◌, ℕ, ◌++◌, List, [], ◌∷◌, refl, sym, ap, ◌∙◌, subst, inl, inr, Bor, Option, Some, None, option_copied, codes, append-nil, append_assoc, GoalName, Goal, In, Program, Query, State, Record, numbers, AreDistinct, Replays, record_once, MakesGoal, Descends, itself, made_by, same_value, World, IsKeptAs}
use Rattle.std.specs.FinMap as finite
use Rattle.ghc_records.proofs.OrderLemmas.{before_is, number_of}
use Rattle.ghc_depend.proofs.Finding.{ends}
use Rattle.ghc_trace.specs.declared.blame_lines.Told.{Told}
use Rattle.ghc_trace.specs.declared.judgements.Answer.{Answer}
use Rattle.ghc_trace.specs.declared.slice_calls.Call.{Call}
use Rattle.ghc_trace.specs.BlameLines.{AreAskedGoals, HasTooLongTold, IsGoalNamed, TellsCallOf, TellsLeft, and_ask, and_step, gave_is_too_long, given_is_too_long, not_taken, taken_so}
use Rattle.ghc_trace.specs.Blaming.{IsFault}
use Rattle.ghc_trace.specs.inner.BlameCode.{IsTaker, StandsAtPlace}
use Rattle.ghc_trace.specs.inner.BlameLinesCode.{HasTooLongCall, IsAbout, IsCallNamed, IsTakerOf, TellsAsked, TellsCallGiven}
use Rattle.ghc_trace.specs.inner.PartsCode.{AreKeptAs, AreWithCauses}
use Rattle.ghc_trace.proofs.PartSteps.{maker}

-- a handle is there where a copy is
pub copied_there : {X : Type 0} (o : Option (Bor X)) (x : X) → option_copied o ≡ Some x → IsSome o
copied_there (Some b) x e = refl
copied_there None x e = let clash : None ≡ Some x = e in cc

-- a number of the slice is that of a step of it, and a kept step of such a number is of the slice
module _ (kept rs : List Record) (ns : List ℕ) (are : AreKeptAs kept rs ns) where
  pub kept_number : (n : ℕ) → In n ns → (r : Record) × IsKeptAs kept n r
  kept_number n i = let q = number_of rs n (subst (In n) (sym are.numbered) i) in (q.0, (are.within q.0 q.1, q.2))

  pub in_slice : AreDistinct (numbers kept) → (r : Record) → In r kept → In r.number ns → In r rs
  in_slice once r i j =
      let q = number_of rs r.number (subst (In r.number) (sym are.numbered) j) in
      subst (λ z. In z rs) (record_once kept q.0 r once (are.within q.0 q.1) i q.2) q.1

-- what descends in the slice descends among the kept steps, and so does what is asked about the other way round
module _ (P : Program) (query : Query) (kept rs : List Record) (t : State) (replay : Replays P query kept t) (within : (r : Record) → In r rs → In r kept) (causes : AreWithCauses kept rs) (g : GoalName) where
  pub descends_there : {h : GoalName} → Descends rs g h → Descends kept g h
  descends_there itself = itself
  descends_there (made_by r i makes took d) = made_by r (within r i) makes took (descends_there d)

  pub descends_here : {h : GoalName} → Descends kept g h → ((r : Record) → In r kept → MakesGoal r h → In r rs) → Descends rs g h
  descends_here itself made = itself
  descends_here (made_by {h = m} r i makes took d) made =
      let of = made r i makes in
      made_by r of makes took (descends_here d (λ q j makes_m.
      let before = (maker P query kept t replay r m i took q j makes_m.0).1 in
      let d = (causes q r).1 (of, (before_is kept q r before, inl (m, took, makes_m))) in
      (ends rs r q d).0))

-- the call at a place is a goal that a step took, or the one asked about
module _ (d : Told) (rs : List Record) (t : State) (about : IsAbout d rs t) (i : ℕ) (c : Call) (at : StandsAtPlace d.calls.now.list.items i c) where
  pub call_taken : (n : ℕ) → c.taker ≡ Some n → IsTaker rs c.name (Some n)
  call_taken n e = subst (IsTaker rs c.name) e (about.calls.takers i c at)

  pub call_asked : c.taker ≡ None → (d.target ≡ Some c.name) × ((b : Goal) × (finite.get d.core.now.world.state.goals c.name ≡ Some b) × (finite.get t.goals c.name ≡ Some b))
  call_asked e =
      let never = subst (IsTaker rs c.name) e (about.calls.takers i c at) in
      elim ((about.calls.all c.name).1 (i, c, at, refl)) [
        | inl q ↦ absurd (never q.0 q.2 q.3)
        | inr q ↦ (q.0, about.there c.name q.0)
      ]

  pub taker_kept : (n : ℕ) → c.taker ≡ Some n → (r : Record) × IsKeptAs d.core.now.world.kept n r
  taker_kept n e = let q = call_taken n e in (q.0, (about.world.steps.within q.0 q.2, q.3))

  -- with the goal of the step of its number
  pub named_taken : AreDistinct (numbers d.core.now.world.kept) → (n : ℕ) → c.taker ≡ Some n → (r : Record) → IsKeptAs d.core.now.world.kept n r → (b : Goal) → r.consumed ≡ Some b
      → IsCallNamed rs t d.target c b
  named_taken once n e r kept b consumed =
      let q = call_taken n e in
      let one = record_once d.core.now.world.kept q.0 r once (about.world.steps.within q.0 q.2) kept.0 (q.3 ∙ sym kept.1) in
      inl (n, r, e, (subst (λ z. In z rs) one q.2, kept.1), ap (λ (z : Record). z.goal) (sym one) ∙ q.4, consumed)

  pub named_asked : c.taker ≡ None → (b : Goal) → finite.get d.core.now.world.state.goals c.name ≡ Some b → IsCallNamed rs t d.target c b
  named_asked e b is =
      let q = call_asked e in
      inr (e, q.0, q.1.2 ∙ ap Some (same_value q.1.1 is))

module _ (w : World) (rs : List Record) (t : State) (target : Option GoalName) (c : Call) (b : Goal) where
  pub goal_named : IsCallNamed rs t target c b → IsGoalNamed rs t c.name b
  goal_named (inl p) = inl (p.1, p.3.0, p.4, p.5)
  goal_named (inr p) = inr p.2

  -- what it was given, what it gave, and how the goal asked about was left
  pub call_told : (text line : List ℕ) → IsCallNamed rs t target c b → TellsCallGiven w rs t c b text → TellsLeft w rs target c.name line
      → (taker : Option Record) × (lines : List ℕ) × IsTakerOf rs c.taker taker × TellsCallOf w rs t target c.name taker lines × (text ++ line ≡ lines)
  call_told text line (inl p) (inl q) tells = (
    Some p.1,
    q.1 ++ (codes "gave " ++ (q.2 ++ (codes "\n" ++ line))),
    subst (λ (o : Option ℕ). IsTakerOf rs o (Some p.1)) (sym p.2) (p.1, p.3, refl),
    taken_so p.1 b p.3.0 p.4 p.5 q.4 q.5 tells,
    ap (λ l. l ++ line) q.6 ∙ append_assoc q.1 (codes "gave " ++ (q.2 ++ codes "\n")) line ∙ ap (λ l. q.1 ++ (codes "gave " ++ l)) (append_assoc q.2 (codes "\n") line),
  )
  call_told text line (inr p) (inr q) tells = (None, text ++ line, subst (λ (o : Option ℕ). IsTakerOf rs o None) (sym p.0) refl, not_taken b p.1 p.2 q.1 tells, refl)
  call_told text line (inl p) (inr q) tells = let clash : Some p.0 ≡ None = sym p.2 ∙ q.0 in cc
  call_told text line (inr p) (inl q) tells = let clash : None ≡ Some q.0 = sym p.0 ∙ q.3 in cc

-- the step that took the call
pub taker_goal : (w : World) (rs : List Record) (t : State) (target : Option GoalName) (g : GoalName) (r : Record) (lines : List ℕ) → TellsCallOf w rs t target g (Some r) lines → In r rs × (r.goal ≡ Some g)
taker_goal w rs t target g r lines (taken_so _ b i e consumed given shown left) = (i, e)

-- what is too long of a call at fault
pub too_long_call : (w : World) (rs : List Record) (t : State) (target : Option GoalName) (answers : List Answer) (g : GoalName) → IsFault rs t target answers (Some g) → HasTooLongCall rs t g
    → HasTooLongTold w rs t target answers
too_long_call w rs t target answers g fault long = elim long.2 [
  | inl given ↦ given_is_too_long g long.0 given.0 (inr fault) long.1 given.1 given.2
  | inr text ↦ gave_is_too_long g long.0 (inr fault) long.1 text
]

-- with what one step more asked for
pub one_asked : (w : World) (target : Option GoalName) (rs : List Record) (r : Record) (old text mid line new : List ℕ) → AreAskedGoals w target rs text → TellsAsked w target r line → mid ≡ old ++ text → new ≡ mid ++ line
    → (more : List ℕ) × AreAskedGoals w target (rs ++ r ∷ []) more × (new ≡ old ++ more)
one_asked w target rs r old text mid line new before (inl p) e f = (text ++ line, and_ask r before p.0 p.1, f ∙ ap (λ l. l ++ line) e ∙ append_assoc old text line)
one_asked w target rs r old text mid line new before (inr p) e f = (text, and_step r before p.0, f ∙ ap (λ l. mid ++ l) p.1 ∙ append-nil mid ∙ e)
