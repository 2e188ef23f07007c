-- The replies to runs: the lines of their steps, and why they stopped.
use Rattle.std.specs.Prelude.{◌≡◌, ◌⊎◌, ℕ, ◌+◌, ◌-◌, ◌≤◌, List, [], ◌∷◌, ◌++◌, codes, drop, length, map, slice_get, Option, Some, None}
use Rattle.std.specs.FinMap as finite
use Rattle.ghc_term.specs.declared.goal_name.GoalName.{GoalName}
use Rattle.ghc_term.specs.declared.fault.Fault.{Fault}
use Rattle.ghc_term.specs.Goal.{Goal}
use Rattle.ghc_hooks.specs.Notes.{NotesByGoal}
use Rattle.ghc_records.specs.Record.{Record}
use Rattle.ghc_records.specs.Journal.{step_of}
use Rattle.ghc_records.specs.StepText.{goal_name_text}
use Rattle.ghc_core.specs.World.{World}
use Rattle.ghc_trace.specs.Ports.{reduced}
use Rattle.ghc_trace.specs.PortText.{port_text}
use Rattle.ghc_trace.specs.Spies.{Spies}
use Rattle.ghc_pool.specs.declared.stop.Stop.{Stop}
use Rattle.ghc_pool.specs.declared.stop.Stop.TheVariants.{Quiet as quiet, Spied as spied, Clash as clash, Limit as at_limit, Full as full, Memory as memory}
use Rattle.ghc_pool.specs.declared.stop.Report.{Report}
use Rattle.ghc_pool.specs.declared.mode.Mode.{Mode}
use Rattle.ghc_pool.specs.declared.mode.Mode.TheVariants as mode
use Rattle.ghc_pool.specs.Runs.{Runs}
use Rattle.ghc_console.specs.Commands.{run_limit}
use Rattle.ghc_console.specs.TextLines.{lined, refusal}

-- the line of a step: its first port, which says that it is taken
abbrev pub step_line : Record → List ℕ
step_line r = lined (port_text (reduced (step_of r)))

-- why a run stopped, as `quiet` or `spied 0.1`
abbrev pub stop_text : Stop → List ℕ
stop_text quiet = codes "quiet"
stop_text (spied g) = codes "spied " ++ goal_name_text g
stop_text (clash g) = codes "clash " ++ goal_name_text g
stop_text at_limit = codes "limit"
stop_text full = codes "full"
stop_text memory = codes "memory"

-- the line that says why a run stopped
abbrev pub stop_line : Stop → List ℕ
stop_line stop = lined (codes "stopped " ++ stop_text stop)

-- This text stands for a line: the line, or F1 in its place, where memory was refused for it.
abbrev pub IsLineTold : List ℕ → List ℕ → Type 0
IsLineTold line text = (text ≡ line) ⊎ (text ≡ refusal Fault.Memory)

-- AreLinesTold lines text: the text has the lines one after another, each itself or F1 in its place.
pub data AreLinesTold : List (List ℕ) → List ℕ → Type 0 where
  no_line : AreLinesTold [] []
  and_line : {line told text : List ℕ} {lines : List (List ℕ)} → IsLineTold line told → AreLinesTold lines text → AreLinesTold (line ∷ lines) (told ++ text)

-- the lines of a run that took these steps: one for each, in recorded order, and then why it stopped
abbrev pub run_lines : List Record → Stop → List (List ℕ)
run_lines steps stop = map step_line steps ++ stop_line stop ∷ []

-- the mode of a run of at most so many steps: of any goals, or where a root is named, of those that descend from it
abbrev pub mode_of : Option GoalName → ℕ → Mode
mode_of None limit = mode.Leap limit
mode_of (Some root) limit = mode.Skip root limit

-- TellsRun workers spies root limit w text v: a run by so many workers, of at most so many steps, left the world v, with some notes, of which no more is said. It took goals that descend from the root, where one is named. The text tells its steps, and why it stopped.
pub record TellsRun (workers : ℕ) (spies : Spies) (root : Option GoalName) (limit : ℕ) (w : World) (text : List ℕ) (v : World) : Type 0 where
  pub notes : NotesByGoal
  pub report : Report
  pub run : Runs (Unit {0}) workers spies root limit w v notes report
  pub told : AreLinesTold (run_lines run.steps report.stop) text

-- RepliesToSkip workers spies w g text v: the goal named g is there, and the text tells a run by so many workers of the goals that descend from it. Its limit is that of a run for which no number is said. Or the text is the refusal, where no such goal is there.
pub data RepliesToSkip (workers : ℕ) (spies : Spies) (w : World) (g : GoalName) : List ℕ → World → Type 0 where
  skips : (b : Goal) {text : List ℕ} {v : World} → finite.get w.state.goals g ≡ Some b → TellsRun workers spies (Some g) run_limit w text v → RepliesToSkip workers spies w g text v
  no_goal : finite.get w.state.goals g ≡ None → RepliesToSkip workers spies w g (refusal Fault.NoGoal) w

-- the last of the records, so many of them
abbrev pub last_of : ℕ → List Record → List Record
last_of count rs = drop (length rs - count) rs

-- IsAdded w count: the last of the kept steps of the world w, so many of them, have the last numbers, one by one up to the next number.
pub record IsAdded (w : World) (count : ℕ) : Type 0 where
  pub few : count ≤ length w.kept
  pub below : count ≤ w.next
  pub numbered : (i : ℕ) (r : Record) → slice_get (last_of count w.kept) i ≡ Some r → r.number ≡ (w.next - count) + i
