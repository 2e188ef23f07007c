-- The answer to each event, and whole plays.
use Rattle.std.specs.Prelude.{◌≡◌, ℕ, ◌+◌, List, [], ◌∷◌, Option, Some, None}
use Rattle.ghc_term.specs.declared.goal_name.GoalName.{GoalName}
use Rattle.ghc_term.specs.declared.fault.Fault.{Fault}
use Rattle.ghc_term.specs.Tree.{Tree}
use Rattle.ghc_term.specs.Goal.{Goal}
use Rattle.ghc_fire.specs.declared.act.Act.TheVariants.{Given as given, Closed as closed}
use Rattle.std.specs.FinMap as finite
use Rattle.ghc_fire.specs.Attempt as attempt
use Rattle.ghc_hooks.specs.Status.{Status}
use Rattle.ghc_records.specs.Record.{Record, numbers}
use Rattle.ghc_depend.specs.Depend.{IsNotKept}
use Rattle.ghc_depend.specs.Lawful.{IsUnlawful}
use Rattle.ghc_core.specs.Arrangement.{Arrangement}
use Rattle.ghc_core.specs.declared.changes.Change.{Change}
use Rattle.ghc_core.specs.declared.changes.Change.TheVariants.{Comes as comes, Goes as goes, Reorders as reorders}
use Rattle.ghc_core.specs.declared.changes.Coming.{Coming}
use Rattle.ghc_core.specs.declared.changes.Going.{Going}
use Rattle.ghc_core.specs.Gone.{Gone, all_gone}
use Rattle.ghc_core.specs.World.{Proposal, Hands, IsHand, with_hand, emptied, World}
use Rattle.ghc_core.specs.Change.{CanChange, Changes}
use Rattle.ghc_core.specs.Events.{Command, input, finish, undo, roll, redo, arrange, ask, Event, propose, commit, note, command, Reply, held, stepped, noted, undone, arranged, refused}
use Rattle.ghc_core.specs.Proposes.{AttemptAnswers, IsProposedIn, IsCommitOf, CommitFails, IsNoCandidate, IsStatusOf}
use Rattle.ghc_core.specs.AskedGoals.{IsOfAsk, AskFails}
use Rattle.ghc_core.specs.Streams.{IsOfStream, StreamFails}
use Rattle.ghc_core.specs.Refusals.{IsToldWhere, OrElse, UndoFails, RedoFails}

-- Asks c change: the command c asks for the change. An input and a close ask for a step of the stream; an undo, a rollback and a redo for the step of their number, the rollback with its consequences; an arrange for the order; an ask for the step that asks for its goals.
pub data Asks : Command → Change → Type 0 where
  to_give : {k : ℕ} {t : Tree} {r : Record} → IsOfStream k (given t) r → Asks (input k t) (comes Coming.Next r)
  to_close : {k : ℕ} {r : Record} → IsOfStream k closed r → Asks (finish k) (comes Coming.Next r)
  to_undo : {n : ℕ} {gone : Gone} → gone.first.number ≡ n → Asks (undo n) (goes Going.Alone gone)
  to_roll : {n : ℕ} {gone : Gone} → gone.first.number ≡ n → Asks (roll n) (goes Going.Together gone)
  to_redo : {n : ℕ} {r : Record} → r.number ≡ n → Asks (redo n) (comes Coming.Shelved r)
  to_arrange : {order : List ℕ} {a : Arrangement} → a.order ≡ order → Asks (arrange order) (reorders a)
  to_ask : {gs : List Goal} {r : Record} → IsOfAsk gs r → Asks (ask gs) (comes Coming.Next r)

-- the reply to a change: the step that comes, the steps that go, or that the record is arranged
abbrev pub told_of : Change → Reply
told_of (comes from r) = stepped r.number
told_of (goes how gone) = undone (numbers (all_gone gone))
told_of (reorders a) = arranged

-- Fails w c f: why the command c is refused in the world w.
abbrev pub Fails : World → Command → Fault → Type 0
Fails w (input k t) f = StreamFails w k f
Fails w (finish k) f = StreamFails w k f
Fails w (undo n) f = UndoFails w.kept n f
Fails w (roll n) f = IsToldWhere Fault.NotKept (IsNotKept w.kept n) f
Fails w (redo n) f = RedoFails w n f
Fails w (arrange order) f = (a b : ℕ) × (f ≡ Fault.NotLawful a b) × IsUnlawful w.kept order a b
Fails w (ask gs) f = AskFails w gs f

-- Obeys Starved w c reply v: in the world w the change for which the command c asks is made, which leaves the world v, and the reply names it. Or the command is refused, for a fault of its own or for memory, which changes nothing.
pub data Obeys (Starved : Type 0) (w : World) (c : Command) : Reply → World → Type 0 where
  does : {change : Change} {reply : Reply} {v : World} → Asks c change → CanChange w change → Changes w change v → reply ≡ told_of change → Obeys Starved w c reply v
  refuses : {f : Fault} → Fails w c f → Obeys Starved w c (refused f) w
  starves : Starved → Obeys Starved w c (refused Fault.Memory) w

-- There is the hand that the event names, if it names one.
abbrev pub HasHand : Hands → Event → Type 0
HasHand hands (propose h g choice) = IsHand hands h
HasHand hands (commit h) = IsHand hands h
HasHand hands (note g) = Unit {0}
HasHand hands (command c) = Unit {0}

-- the hands after an event that gives none of them a proposal: that of a commit is empty
abbrev pub hands_after : Event → Hands → Hands
hands_after (propose h g choice) hands = hands
hands_after (commit h) hands = emptied h hands
hands_after (note g) hands = hands
hands_after (command c) hands = hands

-- AsksFor w hands e change: the event e asks for the change: a commit for the step of the proposal in its hand, a command for what it says.
pub data AsksFor (w : World) (hands : Hands) : Event → Change → Type 0 where
  by_hand : {h : ℕ} {p : Proposal} {r : Record} → finite.get hands.held h ≡ Some p → IsCommitOf w p r → AsksFor w hands (commit h) (comes Coming.Next r)
  by_command : {c : Command} {change : Change} → Asks c change → AsksFor w hands (command c) change

-- Says w hands e reply left: the event e asks for no change: its hand holds what an attempt proposes, or the reply is the status of its goal.
pub data Says (w : World) (hands : Hands) : Event → Reply → Hands → Type 0 where
  holds : {h : ℕ} {g : GoalName} {choice : Option ℕ} (p : Proposal) → IsProposedIn w g choice p → Says w hands (propose h g choice) (held h) (with_hand h p hands)
  tells : {g : GoalName} {s : Status} → IsStatusOf w g s → Says w hands (note g) (noted g s) hands

-- Why the event is refused: an attempt is, or nothing is to be tried; the hand of a commit is empty, or else what it holds is not committed; or why the command is.
abbrev pub IsRefusedFor : World → Hands → Event → Fault → Type 0
IsRefusedFor w hands (propose h g choice) f = AttemptAnswers w g choice (attempt.refused f)
IsRefusedFor w hands (commit h) f = OrElse (IsToldWhere Fault.Stale (finite.get hands.held h ≡ None)) (λ f. (p : Proposal) × (finite.get hands.held h ≡ Some p) × CommitFails w p f) f
IsRefusedFor w hands (note g) f = IsToldWhere Fault.NoGoal (IsNoCandidate w g) f
IsRefusedFor w hands (command c) f = Fails w c f

-- Answers Starved w hands e reply v left: in the world w with these hands the event e gets the reply, which leaves the world v and the hands left. There is no hand of its number. Or the change for which it asks is made, and the reply names it. Or it asks for none, and the reply is what it found. Or it is refused, for a fault of its own or for memory, which changes nothing but that the hand of a commit is empty.
pub data Answers (Starved : Type 0) (w : World) (hands : Hands) (e : Event) : Reply → World → Hands → Type 0 where
  no_hand : ¬ HasHand hands e → Answers Starved w hands e (refused Fault.Command) w hands
  makes : {change : Change} {reply : Reply} {v : World} → HasHand hands e → AsksFor w hands e change → CanChange w change → Changes w change v → reply ≡ told_of change
      → Answers Starved w hands e reply v (hands_after e hands)
  says : {reply : Reply} {left : Hands} → HasHand hands e → Says w hands e reply left → Answers Starved w hands e reply w left
  fails : {f : Fault} → HasHand hands e → IsRefusedFor w hands e f → Answers Starved w hands e (refused f) w (hands_after e hands)
  no_memory : Starved → Answers Starved w hands e (refused Fault.Memory) w (hands_after e hands)

-- Events are answered one after another, each with its reply, and the last leaves the world v and the hands left. Memory was refused in the i-th of them, from 0 on, where Starved i holds.
abbrev pub AnswersEach : (ℕ → Type 0) → World → Hands → List Event → List Reply → World → Hands → Type 0
AnswersEach Starved w hands [] [] v left = (v ≡ w) × (left ≡ hands)
AnswersEach Starved w hands (e ∷ es) (r ∷ rs) v left = (u : World) × (next : Hands) × Answers (Starved 0) w hands e r u next × AnswersEach (λ i. Starved (i + 1)) u next es rs v left
AnswersEach Starved w hands [] (_ ∷ _) v left = ⊥
AnswersEach Starved w hands (_ ∷ _) [] v left = ⊥

-- Plays NoRoom Starved w hands es replies v left: there is no room for the replies, which was refused, and nothing is played; or each event is answered.
pub data Plays (NoRoom : Type 0) (Starved : ℕ → Type 0) (w : World) (hands : Hands) (es : List Event) : Option (List Reply) → World → Hands → Type 0 where
  no_room : NoRoom → Plays NoRoom Starved w hands es None w hands
  played : {replies : List Reply} {v : World} {left : Hands} → AnswersEach Starved w hands es replies v left → Plays NoRoom Starved w hands es (Some replies) v left
