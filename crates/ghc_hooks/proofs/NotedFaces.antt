-- Where notes are exact and no goal is untried, what the notes show is the face of the state.
use Rattle.ghc_hooks.proofs.Words.{◌≡◌, Bool, true, false, Some, None, refl, sym, subst, ap, ◌∙◌, inl, inr, ◌⊎◌, ◌↔◌, ◌≢◌, Option, VarName, GoalName, Goal, Tree, IsAcyclic, StoreValue, value_at, not_both, Program, is_stream, goal_cmp, Goals, Status, ready, waiting, failed, streaming, HasStatus, is_stream_goal, Face, GoalNames, IsFace, StandsAs, IsHookedOn, Note, NotesByGoal, AreExact, IsNotedOn, IsNotedFace, IsNotedAs, IsStreamGoal, SettledNotesShowTheFace, one_value, arith}
use Rattle.std.specs.FinMap as finite
use Rattle.std.specs.FinSet as set
use Rattle.ghc_hooks.proofs.Statuses.{status_once}

-- equivalences in a row
pub through : {A B C : Type 0} → A ↔ B → B ↔ C → A ↔ C
through p q = (λ a. q.0 (p.0 a), λ k. p.1 (q.1 k))

pub turned : {A B : Type 0} → A ↔ B → B ↔ A
turned p = (p.1, p.0)

-- what is new is what is, where both come of what was
pub grown : {New Old Was Is A B : Type 0} → New ↔ (Old ⊎ A) → Old ↔ Was → Is ↔ (Was ⊎ B) → A ↔ B → New ↔ Is
grown new old is same = grind arith

pub shrunk : {New Old Was Is A B : Type 0} → New ↔ (Old × ¬ A) → Old ↔ Was → Is ↔ (Was × ¬ B) → (A → B) → (Was → B → A) → New ↔ Is
shrunk new old is there back = grind arith

streams_stream : (P : Program) (S : VarName → Option Tree) (b : Goal) → HasStatus P S b streaming → is_stream b ≡ true
streams_stream P S b (is_stream_goal e) = e

module _ (P : Program) (G : Goals) (s : StoreValue) (notes : NotesByGoal) (untried : GoalNames) (acyclic : IsAcyclic (value_at s)) (exact : AreExact P G s notes untried) (settled : untried ≡ set.empty) where
  noted_stands : (g : GoalName) (t : Status) → IsNotedAs notes g t → StandsAs P G s g t
  noted_stands g t n = grind arith

  -- a goal that is there and no stream goal has a note
  noted_by : (g : GoalName) (b : Goal) (t : Status) → finite.get G g ≡ Some b → is_stream b ≡ false → HasStatus P (value_at s) b t → (o : Option Note) → finite.get notes g ≡ o → IsNotedAs notes g t
  noted_by g b t there calm has None e =
      absurd (not_both (set.contains untried g) (ap (λ u. set.contains u g) settled ∙ set.contains-empty goal_cmp g) ((exact.marked g).1 (b, there, calm, e)))
  noted_by g b t there calm has (Some note) e =
      let n = exact.noted g note e in
      let one : n.0 ≡ b = one_value n.0 b (sym n.1 ∙ there) in
      (note, e, status_once P (value_at s) b note.status t acyclic (subst (λ c. HasStatus P (value_at s) c note.status) one n.3.0) has)

  stands_by : (g : GoalName) (b : Goal) (t : Status) → finite.get G g ≡ Some b → HasStatus P (value_at s) b t → (k : Bool) → is_stream b ≡ k → IsNotedAs notes g t ⊎ (IsStreamGoal G g × (t ≡ streaming))
  stands_by g b t there has true e = inr ((b, there, e), status_once P (value_at s) b t streaming acyclic has (is_stream_goal e))
  stands_by g b t there has false e = inl (noted_by g b t there e has (finite.get notes g) refl)

  -- a goal stands as it is noted, or is a stream goal
  stands : (g : GoalName) (t : Status) → (IsNotedAs notes g t ⊎ (IsStreamGoal G g × (t ≡ streaming))) ↔ StandsAs P G s g t
  stands g t = (
    λ k. elim k [
      | inl n ↦ noted_stands g t n
      | inr m ↦ (m.0.0, m.0.1, subst (HasStatus P (value_at s) m.0.0) (sym m.1) (is_stream_goal m.0.2))
    ],
    λ h. stands_by g h.0 t h.1 h.2 (is_stream h.0) refl,
  )

  noted : (g : GoalName) (t : Status) → t ≢ streaming → IsNotedAs notes g t ↔ StandsAs P G s g t
  noted g t other = (noted_stands g t, λ h. elim ((stands g t).1 h) [ inl n ↦ n | inr m ↦ absurd (other m.1) ])

  noted_of : {X : Type 0} (of : X → Status) → ((x : X) → of x ≢ streaming) → (g : GoalName)
      → ((x : X) × IsNotedAs notes g (of x)) ↔ ((x : X) × StandsAs P G s g (of x))
  noted_of of other g = (λ w. (w.0, (noted g (of w.0) (other w.0)).0 w.1), λ w. (w.0, (noted g (of w.0) (other w.0)).1 w.1))

  stream_goals : (g : GoalName) → IsStreamGoal G g ↔ StandsAs P G s g streaming
  stream_goals g = (λ m. (m.0, m.1, is_stream_goal m.2), λ h. (h.0, h.1, streams_stream P (value_at s) h.0 h.2))

  hooked : (x : VarName) (g : GoalName) → IsNotedOn notes x g ↔ IsHookedOn P G s x g
  hooked x g = (
    λ n. (n.1, noted_stands g (waiting n.1) (n.0, n.2, n.3), n.4),
    λ h. let n = (noted g (waiting h.0) (λ e. cc)).1 h.1 in (n.0, h.0, n.1, n.2, h.2),
  )

  shown : (face : Face) → IsNotedFace P G s notes face → IsFace P G s face
  shown face f = record {
    same_goals = f.same_goals;
    same_store = f.same_store;
    outcomes = f.outcomes;
    statuses = λ g t. through (f.statuses g t) (stands g t);
    hooks = λ x g. through (f.hooks x g) (hooked x g);
    ready_pool = λ g. through (f.ready_pool g) (noted g ready (λ e. cc));
    waiting_pool = λ g. through (f.waiting_pool g) (noted_of waiting (λ xs e. cc) g);
    failed_pool = λ g. through (f.failed_pool g) (noted_of failed (λ f e. cc) g);
    streams = λ g. through (f.streams g) (stream_goals g);
  }

  shown_back : (face : Face) → IsFace P G s face → IsNotedFace P G s notes face
  shown_back face f = record {
    same_goals = f.same_goals;
    same_store = f.same_store;
    outcomes = f.outcomes;
    statuses = λ g t. through (f.statuses g t) (turned (stands g t));
    hooks = λ x g. through (f.hooks x g) (turned (hooked x g));
    ready_pool = λ g. through (f.ready_pool g) (turned (noted g ready (λ e. cc)));
    waiting_pool = λ g. through (f.waiting_pool g) (turned (noted_of waiting (λ xs e. cc) g));
    failed_pool = λ g. through (f.failed_pool g) (turned (noted_of failed (λ f e. cc) g));
    streams = λ g. through (f.streams g) (turned (stream_goals g));
  }

pub settled_notes : SettledNotesShowTheFace
settled_notes P G s notes untried face acyclic exact settled = (shown P G s notes untried acyclic exact settled face, shown_back P G s notes untried acyclic exact settled face)
