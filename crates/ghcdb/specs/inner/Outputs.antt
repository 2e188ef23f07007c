-- What is written of a session, or of a schedule that is played in its place, and what a writer has of that at the end.
use Rattle.std.specs.Prelude.{◌≡◌, ℕ, List, [], Option, None, Some, Result, MatchResult, OnOk, IfErr, IsErrAnd}
use Rattle.std.specs.Io.KnownBytes.{append_known}
use Rattle.ghc_core.specs.Core.{Core}
use Rattle.ghc_console.specs.ScheduleText.{IsScheduleOf}
use Rattle.ghc_console.specs.Session.{Began, Session, Tells}
use Rattle.ghc_console.specs.SessionState.{SessionState, state_of}
use Rattle.ghc_console.specs.declared.debugger.Debugger.{Debugger}
use Rattle.ghcdb.specs.Start.{IsNoMemoryFor}
use Rattle.ghcdb.specs.inner.Ending.{IsEndRefusal, part_at_end}
use Rattle.ghcdb.specs.declared.refusal.Refusal.{Refusal}
use Rattle.ghcdb.specs.declared.run_or_play.Task.{Task}
use Rattle.ghcdb.specs.declared.run_or_play.Task.TheVariants as task

-- HasReplies s unread before after: where the bytes to come and those written before are known, the replies to all lines to come are written after these.
abbrev pub HasReplies : SessionState → Option (List ℕ) → Option (List ℕ) → Option (List ℕ) → Type 0
HasReplies s unread before after = (asked : ℕ) × (t : SessionState) × Tells Session s unread before after asked t

-- HasBeginning s unread before after: what a session that was broken off tells is written.
abbrev pub HasBeginning : SessionState → Option (List ℕ) → Option (List ℕ) → Option (List ℕ) → Type 0
HasBeginning s unread before after = (asked : ℕ) × (t : SessionState) × Tells Began s unread before after asked t

-- RunsSession s unread before after result: the replies to all lines are written, or, where the result is an error, a beginning of them.
abbrev pub RunsSession : {E : Type 0} → SessionState → Option (List ℕ) → Option (List ℕ) → Option (List ℕ) → Result Unit E → Type 0
RunsSession s unread before after result = MatchResult result (λ _. HasReplies s unread before after) (λ _. HasBeginning s unread before after)

-- PlaysSchedule core unread before after result: the replies to the lines of the schedule and the records are written, or, where the result is an error, a beginning of that.
abbrev pub PlaysSchedule : {E : Type 0} → Core → Option (List ℕ) → Option (List ℕ) → Option (List ℕ) → Result Unit E → Type 0
PlaysSchedule core unread before after result = (left : Core) × IsScheduleOf core unread before after left result

-- RunsOrPlays task d unread before after result: with the lines to come, a session is run on the debugger d, or a schedule is played on its core.
abbrev pub RunsOrPlays : {E : Type 0} → Task → Debugger → Option (List ℕ) → Option (List ℕ) → Option (List ℕ) → Result Unit E → Type 0
RunsOrPlays task.Session d unread before after result = RunsSession (state_of d) unread before after result
RunsOrPlays task.Schedule d unread before after result = PlaysSchedule d.core unread before after result

-- HasOutput task d unread before after result: the writer has all that is written so; or, where the result is an error, it may lack an end of it, which is lost.
abbrev pub HasOutput : {E : Type 0} → Task → Debugger → Option (List ℕ) → Option (List ℕ) → Option (List ℕ) → Result Unit E → Type 0
HasOutput task d unread before after result = (lost : List ℕ) × OnOk result (lost ≡ []) × RunsOrPlays task d unread before (append_known after lost) result

-- Ends task d unread before writer result: the writer that comes back has that, and a refusal is of what did not end well. Where none comes back, no memory was left for what is gathered of the output.
abbrev pub Ends : Task → Debugger → Option (List ℕ) → Option (List ℕ) → Option (Option (List ℕ)) → Result Unit Refusal → Type 0
Ends task d unread before (Some after) result = HasOutput task d unread before after result × IfErr result (IsEndRefusal task)
Ends task d unread before None result = IsErrAnd result (IsNoMemoryFor (part_at_end task))

-- what is done: the schedule is played, where one is given, or else a session is run
abbrev pub task_of : {A : Type 0} → Option A → Task
task_of None = task.Session
task_of (Some schedule) = task.Schedule

-- the lines to come, where they are known: those of the schedule that is given, or else those of the session
abbrev pub lines_to_come : Option (Option (List ℕ)) → Option (List ℕ) → Option (List ℕ)
lines_to_come None unread = unread
lines_to_come (Some lines) unread = lines
