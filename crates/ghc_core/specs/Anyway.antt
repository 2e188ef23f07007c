-- What an event is refused for whatever memory is left.
use Rattle.std.specs.Prelude.{◌≡◌, ◌⊎◌, ℕ, List, [], ◌∷◌, Option, Some, None}
use Rattle.std.specs.FinMap as finite
use Rattle.ghc_term.specs.declared.goal_name.GoalName.{GoalName}
use Rattle.ghc_term.specs.declared.fault.Fault.{Fault}
use Rattle.ghc_fire.specs.Attempt as attempt
use Rattle.ghc_term.specs.Goal.{Goal}
use Rattle.ghc_term.specs.Lists.{In}
use Rattle.ghc_records.specs.Record.{numbers}
use Rattle.ghc_depend.specs.Depend.{IsNotKept}
use Rattle.ghc_core.specs.World.{Proposal, Hands, IsHand, World}
use Rattle.ghc_core.specs.Events.{Command, input, finish, undo, roll, redo, arrange, ask, Event, propose, commit, note, command}
use Rattle.ghc_core.specs.Proposes.{AttemptAnswers, IsNoCandidate}
use Rattle.ghc_core.specs.AskedGoals.{AskFails}
use Rattle.ghc_core.specs.Streams.{StreamFails}
use Rattle.ghc_core.specs.Refusals.{IsToldWhere, OrElse, UndoFails, RedoFails}

-- A hand is not given a proposal: there is no such hand; or else there is no such goal, or no such clause.
pub record IsNotProposedAnyway (w : World) (hands : Hands) (h : ℕ) (g : GoalName) (choice : Option ℕ) (f : Fault) : Type 0 where
  pub first : OrElse (IsToldWhere Fault.Command (¬ IsHand hands h))
      (λ e. ((e ≡ Fault.NoGoal) × AttemptAnswers w g choice (attempt.refused Fault.NoGoal)) ⊎ ((e ≡ Fault.NoClause) × AttemptAnswers w g choice (attempt.refused Fault.NoClause))) f

-- The hand holds nothing, or the goal of what it holds is not there any more.
abbrev pub HoldsNoGoal : World → Hands → ℕ → Type 0
HoldsNoGoal w hands h = (finite.get hands.held h ≡ None) ⊎ ((p : Proposal) × (finite.get hands.held h ≡ Some p) × (finite.get w.state.goals p.goal ≡ None))

-- What a hand holds is not committed: there is no such hand; or else it holds nothing, or a goal that is not there any more.
pub record IsNotCommittedAnyway (w : World) (hands : Hands) (h : ℕ) (f : Fault) : Type 0 where
  pub first : OrElse (IsToldWhere Fault.Command (¬ IsHand hands h)) (IsToldWhere Fault.Stale (HoldsNoGoal w hands h)) f

-- An order is not lawful from its first number on, which is not kept.
abbrev pub BeginsUnkept : World → List ℕ → Fault → Type 0
BeginsUnkept w [] f = ⊥
BeginsUnkept w (n ∷ ns) f = (f ≡ Fault.NotLawful n n) × ¬ In n (numbers w.kept)

-- Goals are not asked for: they name a variable that is not known; or the world is full.
abbrev pub IsNotAskedAnyway : World → List Goal → Fault → Type 0
IsNotAskedAnyway w gs f = ((f ≡ Fault.NoVariable) × AskFails w gs Fault.NoVariable) ⊎ ((f ≡ Fault.Full) × AskFails w gs Fault.Full)

-- A command is not obeyed: there is no such stream, its tail ends in a value, or a full world has no room for what it takes; the step cannot be undone; it is not kept; it is not on the shelf, its goal is not there, or it names a variable that is not known; an order begins with a number that is not kept; or goals are asked for that name a variable that is not known, or for which a full world has no room.
abbrev pub IsNotObeyedAnyway : World → Command → Fault → Type 0
IsNotObeyedAnyway w (input k t) f = StreamFails w k f
IsNotObeyedAnyway w (finish k) f = StreamFails w k f
IsNotObeyedAnyway w (undo n) f = UndoFails w.kept n f
IsNotObeyedAnyway w (roll n) f = (f ≡ Fault.NotKept) × IsNotKept w.kept n
IsNotObeyedAnyway w (redo n) f = ((f ≡ Fault.NotShelved) × RedoFails w n Fault.NotShelved) ⊎ ((f ≡ Fault.NoGoal) × RedoFails w n Fault.NoGoal) ⊎ ((f ≡ Fault.NoVariable) × RedoFails w n Fault.NoVariable)
IsNotObeyedAnyway w (arrange order) f = BeginsUnkept w order f
IsNotObeyedAnyway w (ask gs) f = IsNotAskedAnyway w gs f

-- The event is refused for this, whatever memory is left.
abbrev pub IsRefusedAnyway : World → Hands → Event → Fault → Type 0
IsRefusedAnyway w hands (propose h g choice) f = IsNotProposedAnyway w hands h g choice f
IsRefusedAnyway w hands (commit h) f = IsNotCommittedAnyway w hands h f
IsRefusedAnyway w hands (note g) f = (f ≡ Fault.NoGoal) × IsNoCandidate w g
IsRefusedAnyway w hands (command c) f = IsNotObeyedAnyway w c f
