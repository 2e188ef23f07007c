-- What lines are answered with.
use Rattle.std.specs.Prelude.{◌≡◌, ◌⊎◌, ◌≤◌, ℕ, Bool, false, true, List, length, Option, None, Some, Result, Ok, Err}
use Rattle.std.specs.FinMap as finite
use Rattle.std.specs.Io.KnownBytes.{Keeps}
use Rattle.ghc_term.specs.declared.fault.Fault.{Fault}
use Rattle.ghc_term.specs.declared.goal_name.GoalName.{GoalName}
use Rattle.ghc_term.specs.Goal.{Goal}
use Rattle.ghc_core.specs.World.{World}
use Rattle.ghc_trace.specs.Spies.{Spies}
use Rattle.ghc_console.specs.Commands.{command_of, run_limit}
use Rattle.ghc_console.specs.Reading.{line_limit}
use Rattle.ghc_console.specs.RunReplies.{TellsRun}
use Rattle.ghc_console.specs.TextLines.{refusal}
use Rattle.ghc_console.specs.Listings.{TellsListing, records_listed, session_listed, shelf_listed}
use Rattle.ghc_console.specs.Replies.{Answers, IsReply, RepliesToGoals, RepliesToSaveSteps, quits}
use Rattle.ghc_console.specs.Session.{Served}
use Rattle.ghc_console.specs.SessionState.{SessionState}
use Rattle.ghc_console.specs.declared.answered.Answered.{Answered}
use Rattle.ghc_console.specs.declared.answered.Answered.TheVariants.{Told as told, Ends as ends, Asks as asks, Lists as lists}
use Rattle.ghc_console.specs.declared.answered.Listing.{Listing}
use Rattle.ghc_console.specs.declared.answered.Listing.TheVariants as listing
use Rattle.ghc_console.specs.declared.command.LineCommand.{LineCommand}
use Rattle.ghc_console.specs.declared.command.LineCommand.TheVariants.{Leap as leap, Skip as skip, Records as records, Goals as goals, Shelf as shelf, Save as save, SaveSteps as save_steps, Show as show, Since as since, Causes as causes, GoalOf as goal_of, Clauses as clauses, Why as why, Effects as effects, Who as who, Explain as explain, ExplainGoal as explain_goal, WhyNot as why_not, WhyNotGoal as why_not_goal, Part as part, Blame as blame, BlamePlace as blame_place, BlameGoal as blame_goal}

-- AsksForRun w c root limit: in the world w the command c asks for a run of at most so many steps. `leap` asks for one of any goals; `skip` for one of those that descend from a goal that is there, with the limit of a run for which no number is said.
pub data AsksForRun (w : World) : LineCommand → Option GoalName → ℕ → Type 0 where
  leap_asks : (limit : ℕ) → AsksForRun w (leap limit) None limit
  skip_asks : (g : GoalName) (b : Goal) → finite.get w.state.goals g ≡ Some b → AsksForRun w (skip g) (Some g) run_limit

-- AsksForListing c listed: the command c asks for what is listed: `records` for the records, `goals` for the goals, `shelf` for the shelf, `save` for the whole session, `save 1` for the kept steps.
pub data AsksForListing : LineCommand → Listing → Type 0 where
  records_asks : AsksForListing records listing.Records
  goals_asks : AsksForListing goals listing.Goals
  shelf_asks : AsksForListing shelf listing.Shelf
  save_asks : AsksForListing save listing.Session
  save_steps_asks : AsksForListing save_steps listing.KeptSteps

-- The reply to the command is made at once: it asks for no run and for no listing.
abbrev pub is_told_at_once : LineCommand → Bool
is_told_at_once (leap limit) = false
is_told_at_once (skip goal) = false
is_told_at_once records = false
is_told_at_once goals = false
is_told_at_once shelf = false
is_told_at_once save = false
is_told_at_once save_steps = false
is_told_at_once c = true

-- The command looks something up, and changes nothing.
abbrev pub looks_up : LineCommand → Bool
looks_up (show word) = true
looks_up (since number) = true
looks_up causes = true
looks_up (goal_of number) = true
looks_up (clauses goal) = true
looks_up (why number) = true
looks_up (effects number) = true
looks_up (who word) = true
looks_up (explain word) = true
looks_up (explain_goal goal) = true
looks_up (why_not word) = true
looks_up (why_not_goal goal) = true
looks_up (part goal) = true
looks_up (blame word answers) = true
looks_up (blame_place word place answers) = true
looks_up (blame_goal goal answers) = true
looks_up c = false

-- IsListing w spies listed text: the text lists that of the world w, or the whole session with these spies. It may be the refusal alone, where memory was refused before the first line: to put the goals, the shelf or the spies in order, to try the goals, or to tell why nothing is listed.
abbrev pub IsListing : World → Spies → Listing → List ℕ → Type 0
IsListing w spies listing.Records text = TellsListing (records_listed w.kept) text
IsListing w spies listing.Goals text = RepliesToGoals w text ⊎ (text ≡ refusal Fault.Memory)
IsListing w spies listing.Shelf text = TellsListing (shelf_listed w.shelf) text ⊎ (text ≡ refusal Fault.Memory)
IsListing w spies listing.Session text = TellsListing (session_listed w spies) text ⊎ (text ≡ refusal Fault.Memory)
IsListing w spies listing.KeptSteps text = RepliesToSaveSteps w text ⊎ (text ≡ refusal Fault.Memory)

-- IsAnsweredBy s line text t answered: the text is the reply to the line in the state s, which leaves the state t, and the session goes on or ends. Or the line asks for a run or a listing in the state s, which is left.
abbrev pub IsAnsweredBy : SessionState → List ℕ → List ℕ → SessionState → Answered → Type 0
IsAnsweredBy s line text t told = IsReply s line text t false
IsAnsweredBy s line text t ends = IsReply s line text t true
IsAnsweredBy s line text t (asks root limit) = (t ≡ s) × (length line ≤ line_limit) × AsksForRun s.world (command_of line) root limit
IsAnsweredBy s line text t (lists listed) = (t ≡ s) × (length line ≤ line_limit) × AsksForListing (command_of line) listed

-- IsCommandAnsweredBy s c text t answered: the same of a command instead of a line.
abbrev pub IsCommandAnsweredBy : SessionState → LineCommand → List ℕ → SessionState → Answered → Type 0
IsCommandAnsweredBy s c text t told = Answers s c text t × (quits c ≡ false)
IsCommandAnsweredBy s c text t ends = Answers s c text t × (quits c ≡ true)
IsCommandAnsweredBy s c text t (asks root limit) = (t ≡ s) × AsksForRun s.world c root limit
IsCommandAnsweredBy s c text t (lists listed) = (t ≡ s) × AsksForListing c listed

-- HasRun s root limit text t: a run in the state s, of at most so many steps, left the state t. It took goals that descend from the root, where one is named. The text tells its steps, and why it stopped.
pub record HasRun (s : SessionState) (root : Option GoalName) (limit : ℕ) (text : List ℕ) (t : SessionState) : Type 0 where
  pub run : TellsRun s.workers s.spies root limit s.world text t.world
  pub spies : t.spies ≡ s.spies
  pub workers : t.workers ≡ s.workers
  pub lines : t.clause_lines ≡ s.clause_lines

-- Where a run is asked for, this holds.
abbrev pub IfAsksForRun : Answered → Type 0 → Type 0
IfAsksForRun (asks root limit) Holds = Holds
IfAsksForRun answered Holds = Unit {0}

-- ServesSo s line t old new result: the line was served, and the session goes on or ends, or a call failed. Or the line asks for a run in the state s, which is left, and nothing was written.
abbrev pub ServesSo : {E : Type 0} → SessionState → List ℕ → SessionState → Option (List ℕ) → Option (List ℕ) → Result Answered E → Type 0
ServesSo {E} s line t old new (Ok told) = Served {E = E} s line t old new (Ok false)
ServesSo {E} s line t old new (Ok (lists listed)) = Served {E = E} s line t old new (Ok false)
ServesSo {E} s line t old new (Ok ends) = Served {E = E} s line t old new (Ok true)
ServesSo s line t old new (Ok (asks root limit)) = (t ≡ s) × Keeps old new × (length line ≤ line_limit) × AsksForRun s.world (command_of line) root limit
ServesSo s line t old new (Err e) = Served s line t old new (Err e)
