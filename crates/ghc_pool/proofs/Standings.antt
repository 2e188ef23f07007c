-- How a goal stands, by its note, where no goal is untried.
use Rattle.ghc_pool.proofs.Words.{◌≡◌, Bool, true, false, refl, ap, ◌∙◌, subst, Some, None, Option, ◌≢◌, GoalName, Goal, IsAcyclic, value_at, not_both, is_stream, goal_cmp, GoalNames, Status, streaming, HasStatus, is_stream_goal, Note, NotesByGoal, IsUntried, status_once, same_value, World, AreExactIn, Stands}
use Rattle.std.specs.FinMap as finite
use Rattle.std.specs.FinSet as set

module _ (w : World) (notes : NotesByGoal) (untried : GoalNames) (acyclic : IsAcyclic (value_at w.state.store)) (exact : AreExactIn w notes untried) (settled : untried ≡ set.empty) where
  -- no goal is untried
  pub none_untried : (g : GoalName) → ¬ IsUntried w.state.goals notes g
  none_untried g u = not_both (set.contains untried g) (ap (λ s. set.contains s g) settled ∙ set.contains-empty goal_cmp g) ((exact.marked g).1 u)

  -- a goal stands as its note says
  pub note_stands : (g : GoalName) (note : Note) (s : Status) → finite.get notes g ≡ Some note → note.status ≡ s → Stands w g s
  note_stands g note s k e = let n = exact.noted g note k in (n.0, n.1, subst (HasStatus w.opening.program (value_at w.state.store) n.0) e n.3.0)

  by_note : (g : GoalName) (b : Goal) (s : Status) → finite.get w.state.goals g ≡ Some b → is_stream b ≡ false → HasStatus w.opening.program (value_at w.state.store) b s → (o : Option Note) → finite.get notes g ≡ o
      → (note : Note) × (finite.get notes g ≡ Some note) × (note.status ≡ s)
  by_note g b s there calm has None e = absurd (none_untried g (b, there, calm, e))
  by_note g b s there calm has (Some note) e =
      let n = exact.noted g note e in
      (note, e, status_once w.opening.program (value_at w.state.store) b note.status s acyclic (subst (λ (c : Goal). HasStatus w.opening.program (value_at w.state.store) c note.status) (same_value n.1 there) n.3.0) has)

  by_kind : (g : GoalName) (b : Goal) (s : Status) → s ≢ streaming → finite.get w.state.goals g ≡ Some b → HasStatus w.opening.program (value_at w.state.store) b s → (k : Bool) → is_stream b ≡ k
      → (note : Note) × (finite.get notes g ≡ Some note) × (note.status ≡ s)
  by_kind g b s other there has true e = absurd (other (status_once w.opening.program (value_at w.state.store) b s streaming acyclic has (is_stream_goal e)))
  by_kind g b s other there has false e = by_note g b s there e has (finite.get notes g) refl

  -- a goal that is no stream has the note that says how it stands
  pub stands_noted : (g : GoalName) (s : Status) → s ≢ streaming → Stands w g s → (note : Note) × (finite.get notes g ≡ Some note) × (note.status ≡ s)
  stands_noted g s other st = by_kind g st.0 s other st.1 st.2 (is_stream st.0) refl
