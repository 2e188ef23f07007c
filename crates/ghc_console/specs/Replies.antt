-- The replies to lines: what is written for each, and which state it leaves.
use Rattle.std.specs.Prelude.{◌≡◌, ◌≢◌, ◌⊎◌, ◌<◌, ◌≤◌, ℕ, Bool, true, false, List, [], ◌∷◌, ◌++◌, codes, length, map, Option, Some, None}
use Rattle.std.specs.FinMap as finite
use Rattle.std.specs.List.{AllZip, concat}
use Rattle.ghc_term.specs.declared.var_name.VarName.{VarName}
use Rattle.ghc_term.specs.declared.goal_name.GoalName.{GoalName}
use Rattle.ghc_term.specs.declared.fault.Fault.{Fault}
use Rattle.ghc_term.specs.declared.limit.Limit.TheVariants as limit
use Rattle.ghc_term.specs.Tree.{Tree, variable}
use Rattle.ghc_term.specs.Goal.{Goal}
use Rattle.ghc_term.specs.Store.{value_at}
use Rattle.ghc_term.specs.Resolved.{IsTextOf}
use Rattle.ghc_flat.specs.Clause.{Program}
use Rattle.ghc_reader.specs.Tests.{a_term, an_ask, IsRefusal}
use Rattle.ghc_reader.specs.Read.{IsReadTerm}
use Rattle.ghc_fire.specs.Attempt.{proposes, refused}
use Rattle.ghc_fire.specs.Proposal.{Proposal}
use Rattle.ghc_records.specs.inner.Slots.{SlotList, StandsIn}
use Rattle.ghc_records.specs.Record.{Record, numbers}
use Rattle.ghc_depend.specs.Depend.{IsNotKept}
use Rattle.ghc_depend.specs.Slices.{IsGoalSliceOf, IsSliceOf}
use Rattle.ghc_core.specs.World.{World, IsFull, with_step}
use Rattle.ghc_core.specs.Events.{Command}
use Rattle.ghc_core.specs.Events as command
use Rattle.ghc_core.specs.CommandCode.{command_of as core_command_of}
use Rattle.ghc_core.specs.Proposes.{AttemptAnswers, IsCommitOf}
use Rattle.ghc_core.specs.declared.changes.Change.{Change}
use Rattle.ghc_core.specs.declared.changes.Change.TheVariants.{Comes as comes, Goes as goes, Reorders as reorders}
use Rattle.ghc_core.specs.Gone.{all_gone}
use Rattle.ghc_core.specs.Change.{Changes}
use Rattle.ghc_core.specs.Answers.{Fails}
use Rattle.ghc_core.specs.Asked.{IsAskedFor}
use Rattle.ghc_core.specs.Load.{AskForGoals}
use Rattle.ghc_trace.specs.Ports.{Port, ArePorts}
use Rattle.ghc_trace.specs.PortText.{ports_text}
use Rattle.ghc_trace.specs.News.{Standing, AreNews, news_text}
use Rattle.ghc_trace.specs.GoalLines.{HasTooLong, IsGoalLineOf, IsTooLong, Named, print_limit}
use Rattle.ghc_trace.specs.declared.reasons.Reason.{Reason}
use Rattle.ghc_trace.specs.ReasonText.{reason_text}
use Rattle.ghc_trace.specs.Why.{AreReasonsTold}
use Rattle.ghc_trace.specs.declared.who_bound.Binder.{Binder}
use Rattle.ghc_trace.specs.Who.{AreBindersTold, binder_text}
use Rattle.ghc_trace.specs.Spies.{Spies}
pub use Rattle.ghc_console.specs.TextLines.{lined, lines_or_none, numbers_text, record_lines, refusal, text_lines, undone_text}
use Rattle.ghc_console.specs.Explaining.{RepliesToExplain, RepliesToExplainGoal}
use Rattle.ghc_console.specs.WhyNot.{RepliesToWhyNot, RepliesToWhyNotGoal}
use Rattle.ghc_console.specs.BlameReplies.{RepliesToBlame, RepliesToBlameGoal, RepliesToBlamePlace}
use Rattle.ghc_console.specs.PartReplies.{RepliesToPart}
use Rattle.ghc_console.specs.Looks.{RepliesToSince, RepliesToCauses, RepliesToEffects, RepliesToGoalOf, RepliesToClauses}
use Rattle.ghc_console.specs.RunReplies.{TellsRun, RepliesToSkip}
use Rattle.ghc_console.specs.Keeping.{TellsKept}
pub use Rattle.ghc_console.specs.Listings.{TellsListing, kept_listed, kept_text, records_listed, records_text, saved_text, session_listed, shelf_listed, shelf_text}
use Rattle.ghc_console.specs.VariableNamed.{IsVariableNamed}
use Rattle.ghc_console.specs.AskedFor.{IsReadAskFor}
use Rattle.ghc_console.specs.Commands.{command_of}
use Rattle.ghc_console.specs.declared.command.LineCommand.{LineCommand}
use Rattle.ghc_console.specs.declared.command.LineCommand.TheVariants.{Nothing as nothing, Step as step, Obey as obey, Show as show, Records as records, Since as since, Causes as causes, GoalOf as goal_of, Clauses as clauses, Goals as goals, Why as why, Effects as effects, Who as who, Explain as explain, ExplainGoal as explain_goal, WhyNot as why_not, WhyNotGoal as why_not_goal, Part as part, Blame as blame, BlamePlace as blame_place, BlameGoal as blame_goal, Keep as keep, KeepGoal as keep_goal, Shelf as shelf, Save as save, SaveSteps as save_steps, Spy as spy, Unspy as unspy, Input as input, Ask as ask, Leap as leap, Skip as skip, Quit as quit, Unknown as unknown}
use Rattle.ghc_console.specs.Reading.{line_limit}
use Rattle.ghc_console.specs.SessionState.{SessionState, HasClauseFor, LeavesSpies, predicate_text}

-- Settled w v front text: the world w was changed to the world v, of which the front of the text tells. After it come the lines of the goals that are stuck now in a new way, or F1 in place of these.
pub data Settled (w v : World) (front : List ℕ) : List ℕ → Type 0 where
  settled : {news : List Standing} → AreNews w v news → Settled w v front (front ++ news_text news)
  unsettled : Settled w v front (front ++ refusal Fault.Memory)

-- Takes w p text v: the step that was proposed is taken; the text has its ports, and what is stuck then. Or the world is full, which refuses it.
pub data Takes (w : World) (p : Proposal) : List ℕ → World → Type 0 where
  takes : (r : Record) {ports : List Port} {text : List ℕ} → IsCommitOf w p r → ArePorts w r ports → Settled w (with_step r w) (ports_text ports) text
      → Takes w p text (with_step r w)
  full : IsFull w → Takes w p (refusal Fault.Full) w

-- RepliesToStep w g choice text v: an attempt at the goal named g, with a clause chosen or not, proposes a step, which is taken, or the attempt is refused.
pub data RepliesToStep (w : World) (g : GoalName) (choice : Option ℕ) (text : List ℕ) (v : World) : Type 0 where
  steps : (p : Proposal) → p.goal ≡ g → AttemptAnswers w g choice (proposes p.act p.effect) → Takes w p text v → RepliesToStep w g choice text v
  fails : (f : Fault) → AttemptAnswers w g choice (refused f) → text ≡ refusal f → v ≡ w → RepliesToStep w g choice text v

-- IsFrontOf w change front: the front of a text tells the change of the world w. It has the ports of the step that comes, which steps are undone, or that the record is arranged.
abbrev pub IsFrontOf : World → Change → List ℕ → Type 0
IsFrontOf w (comes from r) front = (ports : List Port) × ArePorts w r ports × (front ≡ ports_text ports)
IsFrontOf w (goes how gone) front = front ≡ undone_text (numbers (all_gone gone))
IsFrontOf w (reorders a) front = front ≡ lined (codes "arranged")

-- TellsChange w change text v: the change is made, which leaves the world v; the text tells it, and what is stuck then.
abbrev pub TellsChange : World → Change → List ℕ → World → Type 0
TellsChange w change text v = (front : List ℕ) × IsFrontOf w change front × Changes w change v × Settled w v front text

-- IsObeyed w c text v: the change for which the command c asks is made, which leaves the world v, and the text tells it. Or the text is the refusal of the command, which changes nothing.
pub data IsObeyed (w : World) (c : Command) (text : List ℕ) (v : World) : Type 0 where
  obeys : (change : Change) → IsAskedFor w c change → TellsChange w change text v → IsObeyed w c text v
  refuses : (f : Fault) → Fails w c f → text ≡ refusal f → v ≡ w → IsObeyed w c text v

-- RepliesToInput w k given text v: a test of the reader refuses what is given, whatever stream k is; or it is read as a term, which the stream gets.
pub data RepliesToInput (w : World) (k : ℕ) (given : List ℕ) : List ℕ → World → Type 0 where
  unread : {f : Fault} → IsRefusal a_term given f → RepliesToInput w k given (refusal f) w
  reads : (u : Tree) {text : List ℕ} {v : World} → IsReadTerm given u → IsObeyed w (command.input k u) text v → RepliesToInput w k given text v

-- RepliesToAsk w given text v: a test of the reader refuses what is given; or it is read as goals, which the world is asked for.
pub data RepliesToAsk (w : World) (given : List ℕ) : List ℕ → World → Type 0 where
  unasked : {f : Fault} → IsRefusal an_ask given f → RepliesToAsk w given (refusal f) w
  asks : (gs : List Goal) {text : List ℕ} {v : World} → IsReadAskFor w given gs → IsObeyed w (command.ask gs) text v → RepliesToAsk w given text v

-- RepliesToShow w word text: the variable that the word names, and the term to which it leads; or the refusal where it names none, or the term is too long.
pub data RepliesToShow (w : World) (word : List ℕ) : List ℕ → Type 0 where
  shows : (x : VarName) (text : List ℕ) → IsVariableNamed w word x → IsTextOf (value_at w.state.store) (variable x) text → length text ≤ print_limit
      → RepliesToShow w word (lined (word ++ (codes " = " ++ text)))
  too_long : (x : VarName) (text : List ℕ) → IsVariableNamed w word x → IsTextOf (value_at w.state.store) (variable x) text → print_limit < length text
      → RepliesToShow w word (refusal (Fault.Limit limit.Print))
  no_variable : ((x : VarName) → ¬ IsVariableNamed w word x) → RepliesToShow w word (refusal Fault.NoVariable)

-- The new text is the old one and the line of the record in the slot; the same text, where that is a gap.
abbrev pub TellsSlot : SlotList → ℕ → List ℕ → List ℕ → Type 0
TellsSlot ss place before after = ((r : Record) × StandsIn ss place r × (after ≡ before ++ record_lines (r ∷ []))) ⊎ (((r : Record) → ¬ StandsIn ss place r) × (after ≡ before))

-- IsGoalTold w goal text: this text stands for the line of the goal, whose own text is not too long: the line, with its status; or F1 in its place, where memory was refused for it.
abbrev pub IsGoalTold : World → Named → List ℕ → Type 0
IsGoalTold w goal text = (IsGoalLineOf w goal.0 goal.1 text × ¬ IsTooLong w.state.store goal.1) ⊎ (text ≡ refusal Fault.Memory)

-- AreGoalsTold w text: the text has all goals of the world, by name, line by line.
abbrev pub AreGoalsTold : World → List ℕ → Type 0
AreGoalsTold w text = (told : List (List ℕ)) × AllZip (IsGoalTold w) (finite.entries w.state.goals) told × (text ≡ concat told)

-- RepliesToGoals w text: each goal with its status, by name, and `none` where there is no goal; or the refusal where the text of a goal is too long.
pub data RepliesToGoals (w : World) : List ℕ → Type 0 where
  no_goals : w.state.goals ≡ finite.empty → RepliesToGoals w (lined (codes "none"))
  lists : {text : List ℕ} → w.state.goals ≢ finite.empty → AreGoalsTold w text → RepliesToGoals w text
  goal_too_long : HasTooLong w.state.goals w.state.store → RepliesToGoals w (refusal (Fault.Limit limit.Print))

-- RepliesToWhy w n text: each step on which the kept step n depends directly, in recorded order, with its cause, and `none` where there is none. Or the refusal where no such step is kept.
pub data RepliesToWhy (w : World) (n : ℕ) : List ℕ → Type 0 where
  tells_reasons : (reasons : List Reason) → AreReasonsTold w.kept n reasons → RepliesToWhy w n (lines_or_none (map reason_text reasons))
  not_kept : IsNotKept w.kept n → RepliesToWhy w n (refusal Fault.NotKept)

-- RepliesToWho w word text: the bound variables of the chain of the variable that the word names, in its order, each with the kept step that bound it. `none` where there is none, or the refusal where the word names none.
pub data RepliesToWho (w : World) (word : List ℕ) : List ℕ → Type 0 where
  tells_binders : (x : VarName) (binders : List Binder) → IsVariableNamed w word x → AreBindersTold w x binders → RepliesToWho w word (lines_or_none (map binder_text binders))
  names_nothing : ((x : VarName) → ¬ IsVariableNamed w word x) → RepliesToWho w word (refusal Fault.NoVariable)

-- RepliesToKeep w word text v: the kept steps outside of the slice of the variable that the word names are rolled back, which leaves the world v. The text tells how many are kept, or is the refusal where the word names none.
pub data RepliesToKeep (w : World) (word : List ℕ) : List ℕ → World → Type 0 where
  keeps : (x : VarName) (slice rest : List Record) {text : List ℕ} {v : World} → IsVariableNamed w word x → IsSliceOf w.kept w.state x slice rest → TellsKept w (numbers rest) text v
      → RepliesToKeep w word text v
  keeps_nothing : ((x : VarName) → ¬ IsVariableNamed w word x) → RepliesToKeep w word (refusal Fault.NoVariable) w

-- RepliesToKeepGoal w g text v: the kept steps outside of the slice of the goal named g are rolled back, which leaves the world v. The text tells how many are kept, or is the refusal where there is no such goal.
pub data RepliesToKeepGoal (w : World) (g : GoalName) : List ℕ → World → Type 0 where
  keeps_goal : (b : Goal) (slice rest : List Record) {text : List ℕ} {v : World} → finite.get w.state.goals g ≡ Some b → IsGoalSliceOf w.opening.program w.kept w.state g b slice rest
      → TellsKept w (numbers rest) text v → RepliesToKeepGoal w g text v
  keeps_no_goal : finite.get w.state.goals g ≡ None → RepliesToKeepGoal w g (refusal Fault.NoGoal) w

-- RepliesToSaveSteps w text: the history of the kept steps; or the refusal where one of them asks for goals, which no text of that version tells.
pub data RepliesToSaveSteps (w : World) : List ℕ → Type 0 where
  tells_history : {text : List ℕ} → ¬ AskForGoals w.kept → TellsListing (kept_listed w) text → RepliesToSaveSteps w text
  has_asked : AskForGoals w.kept → RepliesToSaveSteps w (refusal (Fault.Limit limit.Version))

-- RepliesToSpy P f n text: the text says that the predicate is spied; or it is the refusal, where the program has no clause for it.
pub data RepliesToSpy (P : Program) (f : List ℕ) (n : ℕ) : List ℕ → Type 0 where
  is_spied : HasClauseFor P f n → RepliesToSpy P f n (lined (codes "spying " ++ predicate_text f n))
  is_undefined : ¬ HasClauseFor P f n → RepliesToSpy P f n (refusal (Fault.Undefined f n))

-- Replies lines workers spies w c text v: the reply to the command c in the world w is the text, and it leaves the world v. These predicates are spied, so many workers make a run, and the program's clauses begin at these lines of its text.
abbrev pub Replies : List ℕ → ℕ → Spies → World → LineCommand → List ℕ → World → Type 0
Replies lines workers spies w nothing text v = (text ≡ []) × (v ≡ w)
Replies lines workers spies w (step g choice) text v = RepliesToStep w g choice text v
Replies lines workers spies w (obey c) text v = IsObeyed w (core_command_of c) text v
Replies lines workers spies w (show word) text v = RepliesToShow w word text × (v ≡ w)
Replies lines workers spies w records text v = TellsListing (records_listed w.kept) text × (v ≡ w)
Replies lines workers spies w (since n) text v = RepliesToSince w n text × (v ≡ w)
Replies lines workers spies w causes text v = RepliesToCauses w text × (v ≡ w)
Replies lines workers spies w (goal_of n) text v = RepliesToGoalOf lines w n text × (v ≡ w)
Replies lines workers spies w (clauses g) text v = RepliesToClauses lines w g text × (v ≡ w)
Replies lines workers spies w goals text v = RepliesToGoals w text × (v ≡ w)
Replies lines workers spies w (why n) text v = RepliesToWhy w n text × (v ≡ w)
Replies lines workers spies w (effects n) text v = RepliesToEffects w n text × (v ≡ w)
Replies lines workers spies w (who word) text v = RepliesToWho w word text × (v ≡ w)
Replies lines workers spies w (explain word) text v = RepliesToExplain w word text × (v ≡ w)
Replies lines workers spies w (explain_goal g) text v = RepliesToExplainGoal w g text × (v ≡ w)
Replies lines workers spies w (why_not word) text v = RepliesToWhyNot w word text × (v ≡ w)
Replies lines workers spies w (why_not_goal g) text v = RepliesToWhyNotGoal w g text × (v ≡ w)
Replies lines workers spies w (part g) text v = RepliesToPart w g text × (v ≡ w)
Replies lines workers spies w (blame word told) text v = RepliesToBlame w word told text × (v ≡ w)
Replies lines workers spies w (blame_place word place told) text v = RepliesToBlamePlace w word place told text × (v ≡ w)
Replies lines workers spies w (blame_goal g told) text v = RepliesToBlameGoal w g told text × (v ≡ w)
Replies lines workers spies w (keep word) text v = RepliesToKeep w word text v
Replies lines workers spies w (keep_goal g) text v = RepliesToKeepGoal w g text v
Replies lines workers spies w shelf text v = TellsListing (shelf_listed w.shelf) text × (v ≡ w)
Replies lines workers spies w save text v = TellsListing (session_listed w spies) text × (v ≡ w)
Replies lines workers spies w save_steps text v = RepliesToSaveSteps w text × (v ≡ w)
Replies lines workers spies w (spy f n) text v = RepliesToSpy w.opening.program f n text × (v ≡ w)
Replies lines workers spies w (unspy f n) text v = (text ≡ lined (codes "not spying " ++ predicate_text f n)) × (v ≡ w)
Replies lines workers spies w (input k given) text v = RepliesToInput w k given text v
Replies lines workers spies w (ask given) text v = RepliesToAsk w given text v
Replies lines workers spies w (leap limit) text v = TellsRun workers spies None limit w text v
Replies lines workers spies w (skip g) text v = RepliesToSkip workers spies w g text v
Replies lines workers spies w quit text v = (text ≡ []) × (v ≡ w)
Replies lines workers spies w unknown text v = (text ≡ refusal Fault.Command) × (v ≡ w)

-- The command ends the session.
abbrev pub quits : LineCommand → Bool
quits quit = true
quits c = false

-- Answers s c text t: the reply to the command c in the state s is the text, and it leaves the state t.
pub record Answers (s : SessionState) (c : LineCommand) (text : List ℕ) (t : SessionState) : Type 0 where
  pub told : Replies s.clause_lines s.workers s.spies s.world c text t.world
  pub spies : LeavesSpies s.world.opening.program s.spies c t.spies
  pub workers : t.workers ≡ s.workers
  pub lines : t.clause_lines ≡ s.clause_lines

-- IsReply s line text t ended: the text is the reply to the line in the state s, which leaves the state t, and the session ends or goes on. A line past the limit is refused; and each line may find no memory, which changes nothing.
pub data IsReply (s : SessionState) (line : List ℕ) : List ℕ → SessionState → Bool → Type 0 where
  replies : {text : List ℕ} {t : SessionState} → length line ≤ line_limit → Answers s (command_of line) text t
      → IsReply s line text t (quits (command_of line))
  too_long : line_limit < length line → IsReply s line (refusal (Fault.Limit limit.Line)) s false
  no_memory : IsReply s line (refusal Fault.Memory) s false
