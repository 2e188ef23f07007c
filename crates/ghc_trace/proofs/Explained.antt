-- The lines of the steps of a slice, and of the holders of a variable.
use Rattle.std.specs.Prelude.{IfNone, IsSome}
use Rattle.ghc_trace.proofs.Words.{◌≡◌, ◌≢◌, ℕ, List, [], ◌∷◌, ◌++◌, refl, ap, ◌∙◌, append_assoc, false, None, Some, Option, GoalName, Goal, Record, World, NotesByGoal, is_stream, IsSettled, Stands, Status, StandsByNote}
use Rattle.std.specs.FinMap as finite
use Rattle.ghc_depend.specs.Depend.{IsKeptAs}
use Rattle.ghc_trace.specs.declared.holding.Holder.{Holder}
use Rattle.ghc_trace.specs.Explaining.{AreHolderLines, AreStepLines, and_holder, and_step, holder_line, step_line}
use Rattle.ghc_trace.specs.OtherClauses.{AreOtherClauses}
use Rattle.ghc_trace.proofs.GoalTelling.{stands}
use Rattle.ghc_trace.proofs.Lines.{there}
use Rattle.ghc_trace.proofs.Telling.{none_untried}

-- where no goal is untried, a goal that is there has a note, or is a stream
pub known_there : (w : World) (notes : NotesByGoal) (g : GoalName) (b : Goal) → IsSettled w notes → finite.get w.state.goals g ≡ Some b → is_stream b ≡ false → finite.get notes g ≢ None
known_there w notes g b settled is no_stream none = none_untried settled.exact g (b, is, no_stream, none)

-- and its status is that of its note
pub stands_there : (w : World) (notes : NotesByGoal) (g : GoalName) (b : Goal) (s : Status) → IsSettled w notes → finite.get w.state.goals g ≡ Some b → StandsByNote notes (g, b) s → Stands w g s
stands_there w notes g b s settled is by = stands w notes settled (g, b) s (there w.state.goals g b is) by

-- the line of one more step
pub one_step : (w : World) (ns : List ℕ) (n : ℕ) (old mid new : List ℕ) (r : Record) → IsKeptAs w.kept n r
    → ((text : List ℕ) × AreStepLines w ns text × (mid ≡ old ++ text))
    → ((others : List ℕ) × AreOtherClauses w r others × (new ≡ mid ++ step_line r others))
    → (text : List ℕ) × AreStepLines w (ns ++ n ∷ []) text × (new ≡ old ++ text)
one_step w ns n old mid new r kept before line =
    (before.0 ++ step_line r line.0, and_step r line.0 before.1 kept line.1, line.2 ∙ ap (λ t. t ++ step_line r line.0) before.2 ∙ append_assoc old before.0 (step_line r line.0))

-- the line of one more holder
pub one_told : (w : World) (hs : List Holder) (h : Holder) (old mid new : List ℕ)
    → ((text : List ℕ) × AreHolderLines w hs text × (mid ≡ old ++ text))
    → ((s : Status) × Stands w h.goal s × (new ≡ mid ++ holder_line h s))
    → (text : List ℕ) × AreHolderLines w (hs ++ h ∷ []) text × (new ≡ old ++ text)
one_told w hs h old mid new before line =
    (before.0 ++ holder_line h line.0, and_holder h line.0 before.1 line.1, line.2 ∙ ap (λ t. t ++ holder_line h line.0) before.2 ∙ append_assoc old before.0 (holder_line h line.0))

-- what is written one after another
pub joined : (o a b c d e f : List ℕ) → ((((((o ++ a) ++ b) ++ c) ++ d) ++ e) ++ f) ≡ o ++ (a ++ (b ++ (c ++ (d ++ (e ++ f)))))
joined o a b c d e f =
    append_assoc ((((o ++ a) ++ b) ++ c) ++ d) e f ∙ append_assoc (((o ++ a) ++ b) ++ c) d (e ++ f) ∙ append_assoc ((o ++ a) ++ b) c (d ++ (e ++ f)) ∙ append_assoc (o ++ a) b (c ++ (d ++ (e ++ f)))
    ∙ append_assoc o a (b ++ (c ++ (d ++ (e ++ f))))

-- a look-up of what is there finds it
pub some_there : {X : Type 0} (o : Option X) (P : Type 0) → IfNone o P → ¬ P → IsSome o
some_there (Some x) P h n = refl
some_there None P h n = absurd (n h)
