-- The slice of what is asked about replays, and the goal asked about is there as it is.
use Rattle.ghc_trace.proofs.Words.{◌≡◌, ℕ, Option, StoreValue, List, refl, sym, ◌∙◌, subst, inl, inr, Some, None, GoalName, Goal, In, State, Record, numbers, AreDistinct, Replays, MakesGoal, Picks, picks_has, picks_in, picks_order, is_before, World, IsReplay, value_at, IsAcyclic, IsWithoutSteps}
use Rattle.std.specs.FinMap as finite
use Rattle.ghc_records.proofs.OrderLemmas.{before_is, records_distinct}
use Rattle.ghc_records.proofs.PickLemmas.{picks_keep}
use Rattle.ghc_depend.proofs.Deleting as deleting
use Rattle.ghc_depend.proofs.Finding.{ends}
use Rattle.ghc_depend.proofs.Placing.{results_of}
use Rattle.ghc_depend.proofs.Results.{untaken}
use Rattle.ghc_depend.proofs.Slicing.{doubly, rest_is_closed}
use Rattle.ghc_depend.specs.Deletion.{IsPartedBy}
use Rattle.ghc_depend.specs.Parts.{GavePlace}
use Rattle.ghc_depend.specs.Slices.{Gave, GaveGoal, IsCauseOf, IsGoalSliceOf, cause, root}
use Rattle.ghc_trace.specs.declared.slice_calls.Call.{Call}
use Rattle.ghc_trace.specs.declared.judgements.Subject.{Subject}
use Rattle.ghc_trace.specs.declared.judgements.Subject.TheVariants as subject
use Rattle.ghc_trace.specs.BlameLines.{IsSliceBehind, target_of}
use Rattle.ghc_trace.specs.inner.BlameCode.{AreCallsOf}
use Rattle.ghc_trace.specs.inner.BlameLinesCode.{IsToldSlice}
use Rattle.ghc_trace.specs.inner.PartsCode.{AreWithCauses}
use Rattle.ghc_trace.proofs.PartGiving.{binder_once}

-- what is known of the steps of a slice, which leave the state t
pub record IsSliceKnown (w : World) (s : Subject) (rs : List Record) (t : State) : Type 0 where
  pub within : (r : Record) → In r rs → In r w.kept
  pub replays : IsReplay w rs t
  pub causes : AreWithCauses w.kept rs
  pub there : (g : GoalName) → target_of s ≡ Some g → (b : Goal) × (finite.get w.state.goals g ≡ Some b) × (finite.get t.goals g ≡ Some b)
  pub makers : (g : GoalName) (r : Record) → target_of s ≡ Some g → In r w.kept → MakesGoal r g → In r rs

-- causes are with their causes
pub with_causes : (kept rs : List Record) (roots : Record → Type 0) → AreDistinct (numbers kept) → Picks (IsCauseOf kept roots) kept rs → AreWithCauses kept rs
with_causes kept rs roots once picked a b = (
  λ d. ((ends rs b a d).1, (before_is kept a b (picks_order kept rs a b picked (is_before rs a b d.0)), d.1)),
  λ p.
      let d = p.1 in
      let c = picks_in kept rs b picked p.0 in
      let j : In a rs = elim (picks_has kept rs a picked (ends kept b a d).0) [ inl j ↦ j | inr n ↦ absurd (n (cause c.1 d)) ] in
      (before_is rs a b (picks_keep kept rs a b (records_distinct kept once) picked j p.0 (is_before kept a b d.0)), d.1),
)

module _ (w : World) (replay : Replays w.opening.program w.opening.query w.kept w.state) (acyclic : IsAcyclic (value_at w.state.store)) where
  -- the causes of some steps replay without the rest
  slice_replays : (roots : Record → Type 0) (rs rest : List Record) → IsPartedBy w.kept (IsCauseOf w.kept roots) rs rest → (u : State) × IsReplay w rs u × IsWithoutSteps rest w.state u
  slice_replays roots rs rest parts =
      deleting.replays w.opening.program w.opening.query w.kept w.state replay (λ r. ¬ IsCauseOf w.kept roots r) rest rs (parts.1, doubly w.kept rs parts.0) acyclic (rest_is_closed w.kept roots)

  no_goal : (s : Subject) (roots : Record → Type 0) (rs rest : List Record) → IsPartedBy w.kept (IsCauseOf w.kept roots) rs rest → target_of s ≡ None → (u : State) × IsSliceKnown w s rs u
  no_goal s roots rs rest parts none =
      let u = slice_replays roots rs rest parts in (
        u.0,
        record {
          within = λ r i. (picks_in w.kept rs r parts.0 i).0;
          replays = u.1;
          causes = with_causes w.kept rs roots replay.0.1 parts.0;
          there = λ g e. let clash : None ≡ Some g = sym none ∙ e in cc;
          makers = λ g r e. let clash : None ≡ Some g = sym none ∙ e in cc;
        },
      )

  of_goal : (g : GoalName) (b : Goal) (rs rest : List Record) → finite.get w.state.goals g ≡ Some b → IsGoalSliceOf w.opening.program w.kept w.state g b rs rest → (u : State) × IsSliceKnown w (subject.Goal g) rs u
  of_goal g b rs rest is parts =
      let roots : Record → Type 0 = GaveGoal w.opening.program (value_at w.state.store) g b in
      let u = slice_replays roots rs rest parts in
      let same = u.2.others g (λ m. (picks_in w.kept rest m.0 parts.1 m.1).1 (root (inl m.2)))
      (λ m. untaken w.opening.query w.kept w.state (results_of w.opening.program w.opening.query w.kept w.state replay) g b is m.0 (picks_in w.kept rest m.0 parts.1 m.1).0 m.2) in (
        u.0,
        record {
          within = λ r i. (picks_in w.kept rs r parts.0 i).0;
          replays = u.1;
          causes = with_causes w.kept rs roots replay.0.1 parts.0;
          there = λ h e. let one : g ≡ h = cc in (b, subst (λ z. finite.get w.state.goals z ≡ Some b) one is, subst (λ z. finite.get u.0.goals z ≡ Some b) one (same ∙ is));
          makers = λ h r e i makes.
              let one : h ≡ g = cc in
              elim (picks_has w.kept rs r parts.0 i) [ inl j ↦ j | inr n ↦ absurd (n (root (inl (subst (MakesGoal r) one makes)))) ];
        },
      )

  pub slice_known : (s : Subject) (rs rest : List Record) → IsSliceBehind w s rs rest → (u : State) × IsSliceKnown w s rs u
  slice_known (subject.Value x) rs rest parts = no_goal (subject.Value x) (Gave (value_at w.state.store) x) rs rest parts refl
  slice_known (subject.Place x y) rs rest parts = no_goal (subject.Place x y) (GavePlace (value_at w.state.store) x y) rs rest parts refl
  slice_known (subject.Goal g) rs rest p = of_goal g p.0 rs rest p.1 p.2

-- what is told is about the slice
pub about_slice : (w : World) (ns : List ℕ) (store : StoreValue) (list : List Call) (target : Option GoalName) (s : Subject) (rs : List Record) (t : State) → Replays w.opening.program w.opening.query w.kept w.state
    → target ≡ target_of s → IsSliceKnown w s rs t → numbers rs ≡ ns → t.store ≡ store → AreCallsOf rs t target list → IsToldSlice w ns store list target rs t
about_slice w ns store list target s rs t replay same known numbered left calls = record {
  world = record {
    replay = known.replays;
    bound_once = binder_once w.opening.program w.opening.query w.kept w.state replay;
    steps = record { within = known.within; numbered = numbered };
    causes = known.causes;
    left = left;
  };
  calls = calls;
  there = λ g e. known.there g (sym same ∙ e);
  makers = λ g r e. known.makers g r (sym same ∙ e);
}
