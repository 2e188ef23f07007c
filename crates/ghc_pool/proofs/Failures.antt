-- A run goes by no failed goal: what it noted of the goals that it met.
use Rattle.ghc_pool.proofs.Words.{◌≡◌, ◌≢◌, ◌<◌, ◌⊎◌, refl, sym, ap, ◌∙◌, subst, inl, inr, arith, [], ◌∷◌, ◌++◌, Some, None, Option, VarName, GoalName, Fault, Tree, Goal, IsAcyclic, value_at, in_either, Program, goal_cases, attempt_once, same_fault, Attempts, refused, Record, Binds, Descends, itself, made_by, results_of, Results, IsOld, is_old, Status, waiting, failed, HasStatus, is_failed, GoalNames, Note, NotesByGoal, AreLeft, put_here, put_elsewhere, same_value, World, with_step, reached_good, IsStanding, standing_replay, standing_below, AreExactIn, AttemptAnswers, IsStepOf, StepFails, AreKept, IsNoted, Spies, IsInQuestion, IsSpiedIn, HasFailed, IsNotedFailed, HasMetNoFailure, Met, Stepped, Passed, IsNotedWaiting, WasTried, WasTaken, IsMet}
use Rattle.std.specs.FinMap as finite
use Rattle.ghc_core.specs.Events as events
use Rattle.ghc_core.specs.Proposes as asking
use Rattle.ghc_pool.specs.declared.runs.meet.Met.TheVariants.{Stop as stop}
use Rattle.ghc_pool.proofs.Taking.{step_of_one}

-- each note is where it was
pub all_kept : (notes : NotesByGoal) → AreKept notes notes
all_kept notes g note there = there

pub kept_further : (a b c : NotesByGoal) → AreKept a b → AreKept b c → AreKept a c
kept_further a b c first more g note there = more g note (first g note there)

-- Where no goal in question has failed, none is noted as failed.
pub none_noted : (root : Option GoalName) (w : World) (notes : NotesByGoal) (untried : GoalNames) → AreExactIn w notes untried → ((g : GoalName) → ¬ HasFailed root w g) → HasMetNoFailure root w.kept notes
none_noted root w notes untried exact none g q fails =
    let n = exact.noted g fails.0 fails.2 in
    none g (q, (fails.1, (n.0, n.1, subst (HasStatus w.opening.program (value_at w.state.store) n.0) fails.3 n.3.0)))

-- A goal got a note, which does not tell that it is in question and has failed.
one_noted : (root : Option GoalName) (w : World) (g : GoalName) (before after : NotesByGoal) → IsNoted w g before after → HasMetNoFailure root w.kept before → (IsInQuestion root w.kept g → ¬ IsNotedFailed after g)
    → HasMetNoFailure root w.kept after
one_noted root w g before after noted unmet mine h q fails =
    elim (goal_cases h g) [
      | inl same ↦ mine (subst (IsInQuestion root w.kept) same q) (subst (IsNotedFailed after) same fails)
      | inr other ↦ unmet h q (fails.0, fails.1, sym (put_elsewhere before g noted.note h other) ∙ ap (λ (m : NotesByGoal). finite.get m h) (sym noted.put) ∙ fails.2, fails.3)
    ]

-- what a try leaves
pub tried_met : (spies : Spies) (root : Option GoalName) (w v : World) (g : GoalName) (before after : NotesByGoal) (result : Met) → v ≡ w → AreKept before after → WasTried w g before result after → HasMetNoFailure root w.kept before
    → (IsNoted w g before after → IsInQuestion root w.kept g → ¬ IsNotedFailed after g) → IsMet spies root w before result v after
tried_met spies root w v g before after (Stepped n k) same kept tried unmet mine = absurd tried
tried_met spies root w v g before after stop same kept tried unmet mine = (same, kept)
tried_met spies root w v g before after Passed same kept tried unmet mine = (same, kept, one_noted root w g before after tried unmet (mine tried))

-- a goal that is noted as waiting is not noted as failed
pub waiting_not_failed : (notes : NotesByGoal) (g : GoalName) → IsNotedWaiting notes g → ¬ IsNotedFailed notes g
waiting_not_failed notes g waits fails =
    let same : waits.0 ≡ fails.0 = same_value waits.2 fails.2 in
    let clash : waiting waits.1 ≡ failed fails.1 = sym waits.3 ∙ ap (λ (z : Note). z.status) same ∙ fails.3 in
    cc

status_told : (w : World) (g : GoalName) (s : Status) (reply : events.Reply) → reply ≡ events.noted g s → asking.Notes ⊥ w g reply → asking.IsStatusOf w g s
status_told w g s reply told (asking.Notes.tells {s = t} is) = let same : t ≡ s = cc in subst (asking.IsStatusOf w g) same is
status_told w g s reply told (asking.Notes.no_goal none) = absurd (let clash : events.refused Fault.NoGoal ≡ events.noted g s = told in cc)
status_told w g s reply told (asking.Notes.no_memory starved) = absurd starved

failed_attempt : (P : Program) (S : VarName → Option Tree) (b : Goal) (f : Fault) → HasStatus P S b (failed f) → Attempts P S (Some b) None (refused f) × (f ≢ Fault.Waits)
failed_attempt P S b f (is_failed plain attempt other) = (attempt, other)

-- nor is one of which an attempt waits
pub waits_not_failed : (w : World) (g : GoalName) (before after : NotesByGoal) → IsAcyclic (value_at w.state.store) → AttemptAnswers w g None (refused Fault.Waits) → IsNoted w g before after → ¬ IsNotedFailed after g
waits_not_failed w g before after acyclic waits noted fails =
    let P = w.opening.program in
    let S = value_at w.state.store in
    let is = status_told w g noted.note.status (events.noted g noted.note.status) refl noted.told in
    let put : finite.get after g ≡ Some noted.note = ap (λ (m : NotesByGoal). finite.get m g) noted.put ∙ put_here before g noted.note in
    let same : noted.note ≡ fails.0 = same_value put fails.2 in
    let has : HasStatus P S is.0 (failed fails.1) = subst (HasStatus P S is.0) (ap (λ (z : Note). z.status) same ∙ fails.3) is.3 in
    let attempt = failed_attempt P S is.0 fails.1 has in
    let here = subst (λ (o : Option Goal). Attempts P S o None (refused Fault.Waits)) is.1 waits in
    attempt.1 (same_fault (attempt_once P S (Some is.0) None (refused fails.1) (refused Fault.Waits) acyclic attempt.0 here))

-- a step is refused since its goal waits
pub step_waits : (w : World) (g : GoalName) (f : Fault) → f ≡ Fault.Waits → (f ≡ Fault.Memory) ⊎ StepFails w g None f → AttemptAnswers w g None (refused Fault.Waits)
step_waits w g f is (inl m) = absurd (let clash : Fault.Waits ≡ Fault.Memory = sym is ∙ m in cc)
step_waits w g f is (inr why) = elim why.first [
  | inl a ↦ subst (λ (e : Fault). AttemptAnswers w g None (refused e)) is a
  | inr full ↦ absurd (let clash : Fault.Waits ≡ Fault.Full = sym is ∙ full.1.0 in cc)
]

module _ (w : World) (stands : IsStanding w) (r : Record) (next : r.number ≡ w.next) where
  results : Results w.opening.query w.kept w.state
  results = results_of w.opening.program w.opening.query w.kept w.state (standing_replay w stands)

  below : (g : GoalName) → IsOld w.kept g → g.step < w.next
  below g (inl zero) = let first = (reached_good stands).first in omega (arith, zero, first)
  below g (inr m) = let less = standing_below w stands m.0 m.1 in let is = m.2 in omega (arith, less, is)

  -- the next step makes nothing descend that has an older name
  descended : (root g : GoalName) → g.step < w.next → Descends (w.kept ++ r ∷ []) root g → Descends w.kept root g
  descended root g old itself = itself
  descended root g old (made_by {h = h} q i m e d) = elim (in_either w.kept (r ∷ []) q i) [
    | inl kept ↦ made_by q kept m e (descended root h (below h (results.old q h kept e)) d)
    | inr new ↦ elim new [
      | inl is ↦ absurd (let made = m.0 in let same = ap (λ (z : Record). z.number) is in omega (arith, made, same, next, old))
      | inr none ↦ absurd none
    ]
  ]

  was_in_question : (root : Option GoalName) (g : GoalName) → g.step < w.next → IsInQuestion root (w.kept ++ r ∷ []) g → IsInQuestion root w.kept g
  was_in_question None g old q = tt
  was_in_question (Some named) g old q = descended named g old q

  -- The next step leaves no failed goal in question with a note, where there was none.
  still_unmet : (root : Option GoalName) (before after : NotesByGoal) (untried : GoalNames) → AreExactIn w before untried → AreLeft (with_step r w).state.goals (Binds r) before after → HasMetNoFailure root w.kept before
      → HasMetNoFailure root (w.kept ++ r ∷ []) after
  still_unmet root before after untried exact left unmet g q fails =
      let was = ((left g fails.0).0 fails.2).0 in
      let there = exact.noted g fails.0 was in
      let old = below g (is_old w.opening.query w.kept w.state results g there.0 there.1) in
      unmet g (was_in_question root g old q) (fails.0, fails.1, was, fails.3)

-- what a step that was found leaves
pub taken_met : (spies : Spies) (root : Option GoalName) (w v : World) (g : GoalName) (before after : NotesByGoal) (untried : GoalNames) (r : Record) (result : Met) → IsStanding w → AreExactIn w before untried → IsStepOf w g None r
    → IsInQuestion root w.kept g → ¬ IsSpiedIn spies w g → HasMetNoFailure root w.kept before → WasTaken w before r result v after → IsMet spies root w before result v after
taken_met spies root w v g before after untried r (Stepped n k) stands exact step asked unspied unmet taken =
    let left = subst (λ (u : World). AreLeft u.state.goals (Binds r) before after) taken.0 taken.1 in (
      r,
      record {
        notes = before;
        tried = all_kept before;
        step = step_of_one spies root w before g r stands step asked unspied unmet;
        world = taken.0;
        left = taken.1;
        unfailed = subst (λ (u : World). HasMetNoFailure root u.kept after) (sym taken.0) (still_unmet w stands r step.3.1.0 root before after untried exact left unmet);
      },
    )
taken_met spies root w v g before after untried r stop stands exact step asked unspied unmet taken = (taken.0, subst (AreKept before) (sym taken.1) (all_kept before))
taken_met spies root w v g before after untried r Passed stands exact step asked unspied unmet taken = absurd taken

-- goals were tried in front
pub met_behind : (spies : Spies) (root : Option GoalName) (w v : World) (before notes after : NotesByGoal) (result : Met) → AreKept before notes → IsMet spies root w notes result v after → IsMet spies root w before result v after
met_behind spies root w v before notes after (Stepped n k) kept met =
    let s = met.1 in
    (met.0, record { notes = s.notes; tried = kept_further before notes s.notes kept s.tried; step = s.step; world = s.world; left = s.left; unfailed = s.unfailed })
met_behind spies root w v before notes after stop kept met = (met.0, kept_further before notes after kept met.1)
met_behind spies root w v before notes after Passed kept met = (met.0, kept_further before notes after kept met.1, met.2)

-- all goals so far were passed, and one more is met
pub met_further : (spies : Spies) (root : Option GoalName) (w v u : World) (before notes after : NotesByGoal) (result : Met) → IsMet spies root w before Passed v notes → IsMet spies root v notes result u after
    → IsMet spies root w before result u after
met_further spies root w v u before notes after result went met = met_behind spies root w u before notes after result went.1 (subst (λ (x : World). IsMet spies root x notes result u after) went.0 met)

-- so far no failed goal was met
pub unmet_still : (spies : Spies) (root : Option GoalName) (w v : World) (before notes : NotesByGoal) → IsMet spies root w before Passed v notes → HasMetNoFailure root v.kept notes
unmet_still spies root w v before notes went = subst (λ (x : World). HasMetNoFailure root x.kept notes) (sym went.0) went.2
