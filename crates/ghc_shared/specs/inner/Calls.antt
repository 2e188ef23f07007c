-- Calls of a shared core, and their answers.
use base.Stored.{Gv}
use Rattle.std.specs.Prelude.{◌≡◌, ◌⊎◌, ℕ, ◌-◌, Bool, true, false, List, Option, Some, None, Result, Ok, Err, IsTrue}
use Rattle.std.specs.FinMap as finite
use Rattle.ghc_term.specs.declared.goal_name.GoalName.{GoalName}
use Rattle.ghc_term.specs.declared.var_name.VarName.{VarName}
use Rattle.ghc_term.specs.declared.fault.Fault.{Fault}
use Rattle.ghc_term.specs.Goal.{Goal}
use Rattle.ghc_term.specs.Lists.{In}
use Rattle.ghc_term.specs.Store.{StoreValue, value_at}
use Rattle.ghc_term.specs.Answered.{Answered}
use Rattle.ghc_match.specs.Looked.{GoalLooksAt}
use Rattle.ghc_fire.specs.Attempt.{refused}
use Rattle.ghc_records.specs.Journal.{Opening, Entry, Item, entered}
use Rattle.ghc_records.specs.inner.RecordCode.{opening_code}
use Rattle.ghc_core.specs.World.{Proposal, Hands, no_hands, World}
use Rattle.ghc_core.specs.Core.{Core, IsStanding, Stays}
use Rattle.ghc_core.specs.Counting.{Counts}
use Rattle.ghc_core.specs.Meets.{CarriesNotes}
use Rattle.ghc_core.specs.Events as events
use Rattle.ghc_core.specs.Proposes.{IsProposedIn, AttemptAnswers}
use Rattle.ghc_core.specs.Answers.{Answers}
use Rattle.ghc_core.specs.Anyway.{IsRefusedAnyway}
use Rattle.ghc_core.specs.Legal.{Leaves, Receipt, entry_count, IsAccepted, IsTold}
use Rattle.ghc_core.specs.Playing.{hands_with, IsRefusal}
use Rattle.ghc_core.specs.CommandCode.{command_of}
use Rattle.ghc_core.specs.EventCode.{reply_of}
use Rattle.ghc_core.specs.declared.reply.Reply.{Reply}
use Rattle.ghc_shared.specs.declared.receipt.Receipt as given
use Rattle.ghc_shared.specs.declared.calls.Call.{Call}
use Rattle.ghc_shared.specs.declared.calls.Call.TheVariants.{Submit, SubmitProposed, Note, Command}

-- one hand, which holds the proposal
abbrev pub holding : Proposal → Hands
holding p = hands_with 1 (finite.insert finite.empty 1 p)

-- the hands with which the call is made
abbrev pub hands_of : Call → Hands
hands_of (Submit p) = holding p
hands_of (SubmitProposed p) = holding p
hands_of (Note g) = no_hands
hands_of (Command c) = no_hands

-- the event that the call is: what the one hand holds is committed, a goal is noted, or a command is given
abbrev pub event_of : Call → events.Event
event_of (Submit p) = events.commit 1
event_of (SubmitProposed p) = events.commit 1
event_of (Note g) = events.note g
event_of (Command c) = events.command (command_of c)

-- whether the call is a submit
abbrev pub is_submit : Call → Bool
is_submit (Submit p) = true
is_submit (SubmitProposed p) = true
is_submit (Note g) = false
is_submit (Command c) = false

-- the receipt of a call after these items
abbrev pub receipt_behind : List Item → Reply → Receipt
receipt_behind items reply = record { place = entry_count items; reply = reply_of reply }

-- the receipt that was given, with its place among the entries alone: one less, since the opening stands in front of them
abbrev pub receipt_of : given.Receipt Reply → Receipt
receipt_of receipt = record { place = receipt.place - 1; reply = reply_of receipt.reply }

-- In this world the call has a refusal that F1 cannot hide.
abbrev pub IsToldAnyway : World → Call → Reply → Type 0
IsToldAnyway w call reply = (f : Fault) → IsRefusedAnyway w (hands_of call) (event_of call) f → reply_of reply ≡ events.refused f

-- After these items, a legal history, the call adds no entry and gets this reply, by the definitions of the core; F1 hides no refusal that it cannot hide there.
pub record IsToldCall (items : List Item) (call : Call) (reply : Reply) : Type 0 where
  pub told : IsTold (Unit {0}) items (hands_of call) (event_of call) (receipt_behind items reply)
  pub anyway : IsToldAnyway told.before call reply

-- IsAnswerTo items call reply item: after these items the call may get the reply, with this item where it is accepted.
abbrev pub IsAnswerTo : List Item → Call → Reply → Option Item → Type 0
IsAnswerTo items call reply (Some item) =
    (entry : Entry) × (item ≡ entered entry) × IsAccepted items (hands_of call) (event_of call) (receipt_behind items reply) entry
IsAnswerTo items call reply None = IsToldCall items call reply

-- What a call with this reply does to notes, untried goals and counts of a core: what the event does that the call is. A refused one leaves notes and untried goals as they were.
pub record CallDoes (old : Core) (call : Call) (reply : Reply) (new : Core) : Type 0 where
  pub carries : IsRefusal (reply_of reply) ⊎ CarriesNotes (event_of call) old new
  pub stays : IsRefusal (reply_of reply) → Stays old new
  pub counts : Counts old.world (hands_of call) (event_of call) old.meter new.meter

-- The call was made of the core old, by the words of the core, and got this reply; the core is new after it.
pub record IsCallMade (old : Core) (call : Call) (reply : Reply) (new : Core) : Type 0 where
  pub answer : (left : Hands) × Answers (Unit {0}) old.world (hands_of call) (event_of call) (reply_of reply) new.world left
  pub anyway : IsToldAnyway old.world call reply
  pub does : CallDoes old call reply new

-- A call that was not accepted gets the refusal that F1 cannot hide, if it has one in the world that the front leaves.
abbrev pub IsToldOnFront : List Item → Call → given.Receipt Reply → Type 0
IsToldOnFront front call receipt = (w : World) → receipt.accepted ≡ false → Leaves front w → IsToldAnyway w call receipt.reply

-- the code of an opening; two openings with one code are one
abbrev pub code_of : Opening → Gv
code_of o = opening_code.code o

-- In some world of the opening with this code, an attempt at its goal proposed this.
abbrev pub WasProposedUnder : Gv → Proposal → Type 0
WasProposedUnder opened p = (w : World) × (choice : Option ℕ) × (code_of w.opening ≡ opened) × IsProposedIn w p.goal choice p

-- What a caller knows, who makes the call of a core of the opening with this code.
abbrev pub IsKnownCall : Gv → Call → Type 0
IsKnownCall opened (Submit p) = Unit {0}
IsKnownCall opened (SubmitProposed p) = WasProposedUnder opened p
IsKnownCall opened (Note g) = Unit {0}
IsKnownCall opened (Command c) = Unit {0}

-- In this world, which a core of the opening with this code can be in, an attempt at the goal, with a clause chosen or not, answers this. F1 never hides that the goal or the clause is not there.
pub record IsProposal (opened : Gv) (w : World) (goal : GoalName) (choice : Option ℕ) (result : Result Proposal Fault) : Type 0 where
  pub of_opening : code_of w.opening ≡ opened
  pub standing : IsStanding w
  pub answer : Answered (IsProposedIn w goal choice) (λ f. AttemptAnswers w goal choice (refused f)) result
  pub no_goal : AttemptAnswers w goal choice (refused Fault.NoGoal) → result ≡ Err Fault.NoGoal
  pub no_clause : AttemptAnswers w goal choice (refused Fault.NoClause) → result ≡ Err Fault.NoClause

-- In the world w the goal named g is there, and a trial of it looks at a variable that has a value here.
abbrev pub LooksAmong : World → StoreValue → GoalName → Type 0
LooksAmong w binds g = (b : Goal) × (x : VarName) × (finite.get w.state.goals g ≡ Some b) × GoalLooksAt w.opening.program (value_at w.state.store) b x × IsTrue (finite.contains_key binds x)

-- In the world w the goal named g is there, and a trial of it looks at a variable that the proposal binds.
abbrev pub LooksWhereBound : World → Proposal → GoalName → Type 0
LooksWhereBound w p g = LooksAmong w p.effect.binds g

-- Where a step was proposed in the world w, each name that the list has more is that of a goal that looks where the step binds.
abbrev pub ListsWoken : World → Result Proposal Fault → List GoalName → List GoalName → Type 0
ListsWoken w (Ok p) old new = (g : GoalName) → In g new → In g old ⊎ LooksWhereBound w p g
ListsWoken w (Err f) old new = new ≡ old

-- The reply tells what a commit answered: the number of the step, or why it is refused.
abbrev pub TellsCommit : Result ℕ Fault → Reply → Type 0
TellsCommit (Ok n) reply = reply_of reply ≡ events.stepped n
TellsCommit (Err f) reply = reply_of reply ≡ events.refused f

-- The reply tells why a commit is refused, or where nothing else is the reason, that there is no memory for it.
abbrev pub TellsNoCommit : {A : Type 0} → Result A Fault → Reply → Type 0
TellsNoCommit (Ok _) reply = reply_of reply ≡ events.refused Fault.Memory
TellsNoCommit (Err f) reply = reply_of reply ≡ events.refused f
