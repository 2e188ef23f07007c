-- By notes that are exact, where no goal is untried, the lines of goals are those of the world.
use Rattle.ghc_trace.proofs.Words.{◌≡◌, ◌≢◌, ℕ, List, [], ◌∷◌, ◌++◌, length, refl, sym, ap, ◌∙◌, AllZip, concat, Goal, In, StoreValue, goal_cmp, goal_name_text, Status, is_stream_goal, NotesByGoal, World, Stands, IsSettled, Named, TellsGoal, StandsByNote, as_stream, as_noted, NotesTellGoals, LinesAreOfGoals}
use Rattle.std.specs.FinMap as finite
use Rattle.ghc_trace.proofs.Lines.{each, listed}
use Rattle.std.proofs.lemmas.List.{nil_from_length}
use Rattle.ghc_records.proofs.CutTexts.{empty_front}

-- a goal of the world has the status that its note says
pub stands : (w : World) (notes : NotesByGoal) → IsSettled w notes → (goal : Named) (s : Status) → In goal (finite.entries w.state.goals) → StandsByNote notes goal s → Stands w goal.0 s
stands w notes settled goal s i (as_stream e) = (goal.1, listed w.state.goals goal i, is_stream_goal e)
stands w notes settled goal s i (as_noted {note = note} e f) = let n = settled.exact.noted goal.0 note f in (n.0, n.1, n.3.0)

pub goals_told : NotesTellGoals
goals_told w notes text settled lines = (
  lines.0,
  each (TellsGoal (StandsByNote notes) w.state.store) (TellsGoal (λ goal s. Stands w goal.0 s) w.state.store) (finite.entries w.state.goals) lines.0
      (λ goal line i t. record { status = t.status; has = stands w notes settled goal t.status i t.has; text = t.text; shown = t.shown; written = t.written }) lines.1,
  lines.2,
)

not_nil : (xs ys : List ℕ) (y : ℕ) → xs ++ y ∷ ys ≢ []
not_nil [] ys y e = cc
not_nil (x ∷ xs) ys y e = cc

module _ (Has : Named → Status → Type 0) (store : StoreValue) where
  some_line : (goal : Named) (goals : List Named) (lines : List (List ℕ)) → AllZip (TellsGoal Has store) (goal ∷ goals) lines → concat lines ≢ []
  some_line goal goals [] a e = a
  some_line goal goals (line ∷ lines) a e = not_nil (goal_name_text goal.0) _ 32 (sym a.0.written ∙ empty_front line (concat lines) e)

  no_line : (goals : List Named) (lines : List (List ℕ)) → AllZip (TellsGoal Has store) goals lines → goals ≡ [] → concat lines ≡ []
  no_line [] [] a e = refl
  no_line [] (line ∷ lines) a e = absurd a
  no_line (goal ∷ goals) lines a e = absurd (let clash : goal ∷ goals ≡ [] = e in cc)

pub lines_told : LinesAreOfGoals
lines_told w text t = (
  λ none.
      elim (finite.entries w.state.goals) as (λ es. finite.entries w.state.goals ≡ es → AllZip (TellsGoal (λ goal s. Stands w goal.0 s) w.state.store) es t.0 → w.state.goals ≡ finite.empty) [
        | [] ↦ λ e a. finite.empty_of_len w.state.goals (finite.len-entries w.state.goals ∙ ap length e)
        | goal ∷ goals ↦ λ e a. absurd (some_line _ w.state.store goal goals t.0 a (sym t.2 ∙ none))
      ] refl t.1,
  λ none. t.2 ∙ no_line _ w.state.store (finite.entries w.state.goals) t.0 t.1 (nil_from_length _ (sym (finite.len-entries w.state.goals) ∙ ap finite.len none ∙ finite.len-empty goal_cmp Goal)),
)
