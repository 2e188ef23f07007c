-- What can be tried, and what trying does to notes and counts.
use Rattle.std.specs.Prelude.{◌≡◌, ◌+◌, ℕ, min, false, Some}
use Rattle.std.specs.FinMap as finite
use Rattle.std.specs.FinSet as set
use Rattle.ghc_term.specs.declared.goal_name.GoalName.{GoalName}
use Rattle.ghc_term.specs.Goal.{Goal}
use Rattle.ghc_term.specs.Store.{value_at}
use Rattle.ghc_flat.specs.Flat.{is_stream}
use Rattle.ghc_fire.specs.declared.meter.Meter.{Meter}
use Rattle.ghc_hooks.specs.Face.{GoalNames}
use Rattle.ghc_hooks.specs.Notes.{Note, NotesByGoal, IsExact}
use Rattle.ghc_core.specs.World.{World}
use Rattle.ghc_core.specs.Events.{noted}
use Rattle.ghc_core.specs.Proposes.{Notes}

-- The goal b has the name g and can be tried: it is no stream goal.
abbrev pub IsCandidate : World → GoalName → Goal → Type 0
IsCandidate w g b = (finite.get w.state.goals g ≡ Some b) × (is_stream b ≡ false)

-- The note says what a trial from scratch of the goal named g says.
abbrev pub IsNoteOf : World → GoalName → Note → Type 0
IsNoteOf w g note = (b : Goal) × IsCandidate w g b × IsExact w.opening.program (value_at w.state.store) b note

-- No note went or changed.
abbrev pub AreKept : NotesByGoal → NotesByGoal → Type 0
AreKept old new = (g : GoalName) (note : Note) → finite.get old g ≡ Some note → finite.get new g ≡ Some note

-- In the world w the goal named g has a note, which says the status that a try of it finds, and the other goals have what they had.
pub record IsNoted (w : World) (g : GoalName) (old new : NotesByGoal) : Type 0 where
  pub note : Note
  pub told : Notes ⊥ w g (noted g note.status)
  pub put : new ≡ finite.insert old g note

-- the counts after k more tries
abbrev pub tried_often : ℕ → Meter → Meter
tried_often k m = record { firings = m.firings; tries = min (m.tries + k) 18446744073709551615 }

-- Of the untried goals, k were tried and noted, and no note went or changed.
pub record AreNoted (k : ℕ) (old : NotesByGoal) (untried : GoalNames) (new : NotesByGoal) (left : GoalNames) : Type 0 where
  pub kept : AreKept old new
  pub fewer : set.len left + k ≡ set.len untried
