-- Loading a history, and the history that tells a world.
use Rattle.std.specs.Prelude.{◌≡◌, ◌⊎◌, ℕ, ◌+◌, ◌<◌, ◌≤◌, List, [], ◌∷◌, ◌++◌, length, map, Result, Ok, Err}
use Rattle.ghc_term.specs.Goal.{Goal}
use Rattle.ghc_term.specs.Lists.{In}
use Rattle.ghc_term.specs.declared.fault.Fault.{Fault}
use Rattle.ghc_flat.specs.Clause.{Program, Query}
use Rattle.ghc_fire.specs.declared.act.Act.TheVariants.{Asked as asked}
use Rattle.ghc_records.specs.Numbers.{kept_limit}
use Rattle.ghc_records.specs.Record.{State, Record, numbers, after, Fires}
use Rattle.ghc_records.specs.Replay.{query_state, Runs}
use Rattle.ghc_records.specs.Journal.{Step, step_of, took}
use Rattle.ghc_records.specs.inner.Slots.{SlotList, StandsIn}
use Rattle.ghc_records.specs.History.{History, loaded_opening}
use Rattle.ghc_core.specs.World.{World, IsKnown, Opens}

-- the line of a history's text on which the step stands in front of which there are so many others
abbrev pub line_of_step : ℕ → ℕ
line_of_step n = n + 3

-- The step of the record can be loaded after those that are kept: it is possible now, what it names is known, it has a number of its own, below the next one, and one step more can be kept.
pub record CanLoad (w : World) (r : Record) : Type 0 where
  pub possible : Fires w.opening.program w.state r
  pub known : IsKnown w r
  pub positive : 1 ≤ r.number
  pub below : r.number < w.next
  pub own : ¬ In r.number (numbers w.kept)
  pub few : length w.kept < kept_limit

-- the world, with a step more that was loaded
abbrev pub with_loaded : Record → World → World
with_loaded r w = record w {
  opening = record w.opening { steps = w.opening.steps ++ step_of r ∷ [] };
  state = after w.state r;
  kept = w.kept ++ r ∷ [];
  journal = w.journal ++ took (step_of r) ∷ [];
}

-- The record is that of the step, as it is possible in the state.
abbrev pub IsPossibleAs : Program → State → Step → Record → Type 0
IsPossibleAs P t s r = (step_of r ≡ s) × Fires P t r

-- The step is not possible in the state, with any effect.
abbrev pub IsImpossible : Program → State → Step → Type 0
IsImpossible P t s = (r : Record) → ¬ IsPossibleAs P t s r

-- The step asks for goals.
abbrev pub AsksForGoals : Record → Type 0
AsksForGoals r = (gs : List Goal) × (r.act ≡ asked gs)

-- One of the steps asks for goals.
abbrev pub AskForGoals : List Record → Type 0
AskForGoals rs = (r : Record) × In r rs × AsksForGoals r

-- the history of a world: the steps that it keeps, in recorded order, and the number that the next step gets
abbrev pub history_of : World → History
history_of w = record { steps = map step_of w.kept; next = w.next }

-- KeepsSlot part slots i before after: the part of the record at place i was put after the others, or there is a gap, and none was.
abbrev pub KeepsSlot : {A : Type 0} → (Record → A) → SlotList → ℕ → List A → List A → Type 0
KeepsSlot part slots i before after =
    ((r : Record) × StandsIn slots i r × (after ≡ before ++ part r ∷ [])) ⊎ (((r : Record) → ¬ StandsIn slots i r) × (after ≡ before))

-- These steps were run from the query, and left the state t; the next step of the history, s, is not possible there.
pub record StopsAt (P : Program) (query : Query) (h : History) (line : ℕ) : Type 0 where
  pub before : List Step
  pub stopped : Step
  pub behind : List Step
  pub whole : h.steps ≡ before ++ stopped ∷ behind
  pub run : List Record
  pub state : State
  pub run_steps : map step_of run ≡ before
  pub runs : Runs P (query_state query) run state
  pub impossible : IsImpossible P state stopped
  pub line_is : line ≡ line_of_step (length before)

-- Loads Starved P query names h answer: the history is loaded on the program and the query, whose variables have these names, or the refusal names the line of the first step that is not possible.
pub data Loads (Starved : Type 0) (P : Program) (query : Query) (names : List (List ℕ)) (h : History) : Result World Fault → Type 0 where
  loads : (w : World) → Opens (loaded_opening P query names h) w → Loads Starved P query names h (Ok w)
  stops : {line : ℕ} → StopsAt P query h line → Loads Starved P query names h (Err (Fault.History line))
  no_memory : Starved → Loads Starved P query names h (Err Fault.Memory)
