-- Acts on streams, why they are refused, and what is foreseen of them.
use Rattle.std.specs.Prelude.{◌≡◌, ℕ, List, Some}
use Rattle.std.specs.FinMap as finite
use Rattle.ghc_term.specs.declared.var_name.VarName.{VarName}
use Rattle.ghc_term.specs.declared.goal_name.GoalName.{GoalName}
use Rattle.ghc_term.specs.Tree.{Tree, IsValue}
use Rattle.ghc_term.specs.Goal.{Goal, stream}
use Rattle.ghc_term.specs.Store.{value_at}
use Rattle.ghc_match.specs.Position.{EndsIn}
use Rattle.ghc_term.specs.declared.fault.Fault.{Fault}
use Rattle.ghc_fire.specs.declared.act.Act.{Act}
use Rattle.ghc_fire.specs.declared.act.Act.TheVariants.{Given as given, Closed as closed}
use Rattle.ghc_records.specs.Record.{Record}
use Rattle.ghc_core.specs.World.{World, IsFull, IsNextStep}
use Rattle.ghc_core.specs.Refusals.{IsToldWhere, OrElse}
use Rattle.ghc_core.specs.AskedGoals.{IsOfAsk, AskFails}
use Rattle.ghc_core.specs.Events.{Command, input, finish, undo, roll, redo, arrange, ask}

-- The goal named g is that of stream k, with the tail s.
abbrev pub IsStreamAt : World → ℕ → GoalName → VarName → Type 0
IsStreamAt w k g s = finite.get w.state.goals g ≡ Some (stream k s)

-- Why stream k takes neither input nor close: there is no such stream, or it is closed; or else its tail ends in a value; or else the world is full.
pub record StreamFails (w : World) (k : ℕ) (f : Fault) : Type 0 where
  pub first : OrElse (IsToldWhere Fault.NoStream ((g : GoalName) (s : VarName) → ¬ IsStreamAt w k g s))
      (OrElse (IsToldWhere Fault.TailBound ((g : GoalName) × (s : VarName) × (e : Tree) × IsStreamAt w k g s × EndsIn (value_at w.state.store) s e × IsValue e))
      (IsToldWhere Fault.Full (IsFull w))) f

-- The record is that of the act on stream k.
abbrev pub IsOfStream : ℕ → Act → Record → Type 0
IsOfStream k act r = (g : GoalName) × (s : VarName) × (r.goal ≡ Some g) × (r.consumed ≡ Some (stream k s)) × (r.act ≡ act)

-- The record is that of the act on stream k, as the next step of the world.
abbrev pub IsStreamStep : World → ℕ → Act → Record → Type 0
IsStreamStep w k act r = IsOfStream k act r × IsNextStep w r

-- What is foreseen of a command: the record that it would add, or a refusal.
pub data Foreseen : Type 0 where
  adds : Record → Foreseen
  refuses : Fault → Foreseen

-- An act on stream k would add this record now, or be refused.
abbrev pub ForeseesOn : World → ℕ → Act → Foreseen → Type 0
ForeseesOn w k act (adds r) = IsStreamStep w k act r
ForeseesOn w k act (refuses f) = StreamFails w k f

-- An ask for the goals would add this record now, or be refused.
abbrev pub ForeseesAsk : World → List Goal → Foreseen → Type 0
ForeseesAsk w gs (adds r) = IsOfAsk gs r × IsNextStep w r
ForeseesAsk w gs (refuses f) = AskFails w gs f

-- What is foreseen of each command: inputs, closes and asks alone add a record.
abbrev pub Foresees : World → Command → Foreseen → Type 0
Foresees w (input k t) x = ForeseesOn w k (given t) x
Foresees w (finish k) x = ForeseesOn w k closed x
Foresees w (undo n) x = x ≡ refuses Fault.Command
Foresees w (roll n) x = x ≡ refuses Fault.Command
Foresees w (redo n) x = x ≡ refuses Fault.Command
Foresees w (arrange order) x = x ≡ refuses Fault.Command
Foresees w (ask gs) x = ForeseesAsk w gs x
