-- Events and replies.
use Rattle.std.specs.Prelude.{ℕ, List, Option}
use Rattle.ghc_term.specs.declared.goal_name.GoalName.{GoalName}
use Rattle.ghc_term.specs.Tree.{Tree}
use Rattle.ghc_term.specs.Goal.{Goal}
use Rattle.ghc_term.specs.declared.fault.Fault.{Fault}
use Rattle.ghc_hooks.specs.Status.{Status}

-- A command gives stream k an input or closes it, undoes, rolls back or redoes step n, puts the record into an order, or asks for goals, in which new variables are of the number that no step has.
pub data Command : Type 0 where
  input : ℕ → Tree → Command
  finish : ℕ → Command
  undo : ℕ → Command
  roll : ℕ → Command
  redo : ℕ → Command
  arrange : List ℕ → Command
  ask : List Goal → Command

-- An event: a hand proposes a step of a goal, with a clause chosen or not, or commits what it holds; a goal is tried and noted; or a command.
pub data Event : Type 0 where
  propose : ℕ → GoalName → Option ℕ → Event
  commit : ℕ → Event
  note : GoalName → Event
  command : Command → Event

-- A reply: a hand holds a proposal, a step was taken or redone, a goal was noted, steps were undone, the record was arranged, or the event was refused.
pub data Reply : Type 0 where
  held : ℕ → Reply
  stepped : ℕ → Reply
  noted : GoalName → Status → Reply
  undone : List ℕ → Reply
  arranged : Reply
  refused : Fault → Reply
