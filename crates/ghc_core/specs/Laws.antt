-- Laws of worlds and events.
use Rattle.std.specs.Prelude.{◌≡◌, ◌≢◌, ◌↔◌, ℕ, Option, Some, Result}
use Rattle.std.specs.FinMap as finite
use Rattle.ghc_term.specs.declared.var_name.VarName.{VarName}
use Rattle.ghc_term.specs.declared.goal_name.GoalName.{GoalName}
use Rattle.ghc_term.specs.declared.fault.Fault.{Fault}
use Rattle.ghc_term.specs.Answered.{Answered, IsExact}
use Rattle.ghc_term.specs.Bindings.{IsAcyclic}
use Rattle.ghc_term.specs.Store.{value_at}
use Rattle.ghc_fire.specs.declared.act.Act.{Act}
use Rattle.ghc_fire.specs.Effect.{no_step}
use Rattle.ghc_records.specs.Orders.{AreDistinct}
use Rattle.ghc_records.specs.Record.{Record, numbers}
use Rattle.ghc_records.specs.Replay.{IsVariableOf}
use Rattle.ghc_records.specs.Laws.{IsWellMade}
use Rattle.ghc_depend.specs.Kept.{Keeps}
use Rattle.ghc_core.specs.World.{no_hands, Proposal, Hands, World}
use Rattle.ghc_core.specs.Streams.{IsStreamAt, StreamFails, IsStreamStep}
use Rattle.ghc_core.specs.Events.{Event, Reply}
use Rattle.ghc_core.specs.Proposes.{StillHolds, HoldsAsNext, IsCommitOf, CommitFails, IsStepOf, StepFails}
use Rattle.ghc_core.specs.Answers.{Answers}
use Rattle.ghc_core.specs.Legal.{IsReachable, IsProper}
use Rattle.ghc_core.specs.Reached.{AreNamesOf, Reaches}

-- The world is orderly: no number is kept twice, the store is acyclic, and each stream has one goal at most.
pub record IsOrderly (w : World) : Type 0 where
  pub kept_once : AreDistinct (numbers w.kept)
  pub acyclic : IsAcyclic (value_at w.state.store)
  pub streams_once : (k : ℕ) (g h : GoalName) (s u : VarName) → IsStreamAt w k g s → IsStreamAt w k h u → g ≡ h

-- No variable of the world is of the number that no step has, so that an effect under it stands for the effect under any number.
abbrev pub NoStepIsFree : World → Type 0
NoStepIsFree w = (x : VarName) → IsVariableOf w.opening.query w.kept x → x.step ≢ no_step

-- A reachable world is orderly.
abbrev pub ReachableIsOrderly : Type 0
ReachableIsOrderly = (w : World) (hands : Hands) → IsReachable w hands → IsOrderly w

-- In a reachable world the store is acyclic, and each variable of goals and store is the query's or made by a kept step.
abbrev pub ReachableIsWellMade : Type 0
ReachableIsWellMade = (w : World) (hands : Hands) → IsReachable w hands → IsWellMade w.opening.query w.kept w.state

-- In a reachable world each variable of the query has a name, and no two have one name, but for `_`.
abbrev pub ReachableIsNamed : Type 0
ReachableIsNamed = (w : World) (hands : Hands) → IsReachable w hands → AreNamesOf w.opening.query w.opening.names

-- In a reachable world the journal, in which loaded steps stand as taken, tells what is kept and what is on the shelf.
abbrev pub ReachableKeeps : Type 0
ReachableKeeps = (w : World) (hands : Hands) → IsReachable w hands → Keeps w.opening w.journal w.kept w.shelf

-- In an orderly world each event has one answer at most, unless memory is refused.
abbrev pub OrderedHasOneAnswer : Type 0
OrderedHasOneAnswer =
    (w u v : World) (hands left other : Hands) (e : Event) (reply said : Reply) → IsOrderly w
    → Answers ⊥ w hands e reply u left → Answers ⊥ w hands e said v other → (reply ≡ said) × (u ≡ v) × (left ≡ other)

-- In a reachable world each event has one answer at most, unless memory is refused.
abbrev pub EventsHaveOneAnswer : Type 0
EventsHaveOneAnswer =
    (w u v : World) (hands left other : Hands) (e : Event) (reply said : Reply) → IsReachable w hands
    → Answers ⊥ w hands e reply u left → Answers ⊥ w hands e said v other → (reply ≡ said) × (u ≡ v) × (left ≡ other)

-- In a reachable world, what is answered for a commit of a proposal is exact: its record as the next step, or why it is refused, unless memory was refused.
abbrev pub CommitIsExact : Type 0
CommitIsExact =
    (w : World) (hands : Hands) (p : Proposal) (result : Result Record Fault) → IsReachable w hands
    → Answered (IsCommitOf w p) (CommitFails w p) result → IsExact (IsCommitOf w p) (CommitFails w p) result

-- In a reachable world, what is answered for a step of a goal is exact: the record of the next step, or why none is taken, unless memory was refused.
abbrev pub StepIsExact : Type 0
StepIsExact =
    (w : World) (hands : Hands) (g : GoalName) (choice : Option ℕ) (result : Result Record Fault) → IsReachable w hands
    → Answered (IsStepOf w g choice) (StepFails w g choice) result → IsExact (IsStepOf w g choice) (StepFails w g choice) result

-- In a reachable world, what is answered for an act on a stream is exact: the record of the next step, or why none is taken, unless memory was refused.
abbrev pub StreamStepIsExact : Type 0
StreamStepIsExact =
    (w : World) (hands : Hands) (k : ℕ) (act : Act) (result : Result Record Fault) → IsReachable w hands
    → Answered (IsStreamStep w k act) (StreamFails w k) result → IsExact (IsStreamStep w k act) (StreamFails w k) result

-- In a reachable world, what a hand holds still holds exactly where it holds as the next step: under no number and under the next one alike, its effect now is the one proposed.
abbrev pub StillHoldsAsNext : Type 0
StillHoldsAsNext =
    (w : World) (hands : Hands) (h : ℕ) (p : Proposal) → IsReachable w hands → finite.get hands.held h ≡ Some p → StillHolds w p ↔ HoldsAsNext w p

-- In a reachable world each proper event has an answer other than F1.
abbrev pub EventsHaveAnAnswer : Type 0
EventsHaveAnAnswer =
    (w : World) (hands : Hands) (e : Event) → IsReachable w hands → IsProper e
    → (reply : Reply) × (v : World) × (left : Hands) × Answers ⊥ w hands e reply v left

-- Events and changes lead to the same worlds: a reachable world is reached by changes, and a world that changes reach is reachable, without hands.
abbrev pub EventsLeadWhereChangesLead : Type 0
EventsLeadWhereChangesLead = ((w : World) (hands : Hands) → IsReachable w hands → Reaches w) × ((w : World) → Reaches w → IsReachable w no_hands)
