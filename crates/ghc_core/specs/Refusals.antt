-- Why a step is not undone or redone, and how causes follow each other.
use Rattle.std.specs.Prelude.{◌≡◌, ◌⊎◌, ℕ, ◌≤◌, List, length, Some, None}
use Rattle.std.specs.FinMap as finite
use Rattle.ghc_term.specs.declared.goal_name.GoalName.{GoalName}
use Rattle.ghc_term.specs.declared.fault.Fault.{Fault}
use Rattle.ghc_fire.specs.Goals.{Goals}
use Rattle.ghc_records.specs.Numbers.{kept_limit}
use Rattle.ghc_records.specs.Record.{Record, Fires}
use Rattle.ghc_depend.specs.Depend.{Follows, IsKeptAs, IsNotKept, IsFirstConsequence}
use Rattle.ghc_core.specs.World.{World, IsKnown}

-- The fault is this one, and its condition holds.
abbrev pub IsToldWhere : Fault → Type 0 → Fault → Type 0
IsToldWhere told Holds f = (f ≡ told) × Holds

-- The first cause; or else, where it does not hold, the next.
abbrev pub OrElse : (Fault → Type 0) → (Fault → Type 0) → Fault → Type 0
OrElse First Next f = First f ⊎ (((g : Fault) → ¬ First g) × Next f)

-- Step n can be undone: it is kept, and has no consequences.
abbrev pub CanUndo : List Record → ℕ → Type 0
CanUndo kept n = (r : Record) × IsKeptAs kept n r × ((b : Record) → ¬ Follows kept r b)

-- The step of number n is kept, and the fault names its first consequence.
abbrev pub HasConsequence : List Record → ℕ → Fault → Type 0
HasConsequence kept n f = (r b : Record) × (f ≡ Fault.HasConsequence b.number) × IsKeptAs kept n r × IsFirstConsequence kept r b

-- Why step n is not undone: it is not kept, or else its first consequence stands in the way.
pub record UndoFails (kept : List Record) (n : ℕ) (f : Fault) : Type 0 where
  pub first : OrElse (IsToldWhere Fault.NotKept (IsNotKept kept n)) (HasConsequence kept n) f

-- The step consumed a goal that is not there now.
abbrev pub LacksGoal : Goals → Record → Type 0
LacksGoal goals r = (g : GoalName) × (r.goal ≡ Some g) × (finite.get goals g ≡ None)

-- On the shelf stands a step n of which this holds.
abbrev pub IsShelvedWith : World → ℕ → (Record → Type 0) → Type 0
IsShelvedWith w n P = (r : Record) × (finite.get w.shelf n ≡ Some r) × P r

-- Why step n is not redone: it is not on the shelf; or else its goal is not there; or else it names a variable that is not known; or else, fired now, it would not have the effect recorded; or else the greatest number of steps is kept.
pub record RedoFails (w : World) (n : ℕ) (f : Fault) : Type 0 where
  pub first : OrElse (IsToldWhere Fault.NotShelved (finite.get w.shelf n ≡ None))
      (OrElse (IsToldWhere Fault.NoGoal (IsShelvedWith w n (LacksGoal w.state.goals)))
      (OrElse (IsToldWhere Fault.NoVariable (IsShelvedWith w n (λ r. ¬ IsKnown w r)))
      (OrElse (IsToldWhere Fault.Changed (IsShelvedWith w n (λ r. ¬ Fires w.opening.program w.state r)))
      (IsToldWhere Fault.Full (kept_limit ≤ length w.kept))))) f
