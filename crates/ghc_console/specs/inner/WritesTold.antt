-- What the writing of lines says.
use Rattle.std.specs.Prelude.{◌⊎◌, ℕ, List, [], ◌∷◌, Option, Result}
use Rattle.std.specs.List.{AllZip, concat}
use Rattle.ghc_records.specs.Record.{Record}
use Rattle.ghc_records.specs.Journal.{step_of}
use Rattle.ghc_records.specs.StepText.{record_text, step_text}
use Rattle.ghc_records.specs.inner.Slots.{SlotList, StandsIn}
use Rattle.ghc_core.specs.World.{World}
use Rattle.ghc_trace.specs.GoalLines.{Named}
use Rattle.ghc_console.specs.inner.Device.{WritesFront}
use Rattle.ghc_console.specs.TextLines.{lined}
use Rattle.ghc_console.specs.RunReplies.{AreLinesTold}
use Rattle.ghc_console.specs.Replies.{IsGoalTold}
use Rattle.ghc_console.specs.declared.replies.record_listing.RecordForm.{RecordForm}
use Rattle.ghc_console.specs.declared.replies.record_listing.RecordForm.TheVariants as form

-- A text was written that tells the lines, or a front of it where a call failed.
abbrev pub WritesTold : {E : Type 0} → List (List ℕ) → Option (List ℕ) → Option (List ℕ) → Result Unit E → Type 0
WritesTold lines old new result = (text : List ℕ) × AreLinesTold lines text × WritesFront old new result text

-- what a line of a record tells in this form: the whole record, or its step alone
abbrev pub form_text : RecordForm → Record → List ℕ
form_text form.Whole r = record_text r
form_text form.Step r = step_text (step_of r)

-- The line of the record in the slot of this place was written; or no line, where that is a gap.
abbrev pub WritesSlot : {E : Type 0} → (Record → List ℕ) → SlotList → ℕ → Option (List ℕ) → Option (List ℕ) → Result Unit E → Type 0
WritesSlot f ss place old new result = ((r : Record) × StandsIn ss place r × WritesTold (lined (f r) ∷ []) old new result) ⊎ (((r : Record) → ¬ StandsIn ss place r) × WritesTold [] old new result)

-- A text that stands for the line of the goal was written, or a front of it where a call failed.
abbrev pub WritesGoal : {E : Type 0} → World → Named → Option (List ℕ) → Option (List ℕ) → Result Unit E → Type 0
WritesGoal w goal old new result = (text : List ℕ) × IsGoalTold w goal text × WritesFront old new result text

-- So were texts for all of these goals, one after another.
abbrev pub WritesGoals : {E : Type 0} → World → List Named → Option (List ℕ) → Option (List ℕ) → Result Unit E → Type 0
WritesGoals w goals old new result = (told : List (List ℕ)) × AllZip (IsGoalTold w) goals told × WritesFront old new result (concat told)
