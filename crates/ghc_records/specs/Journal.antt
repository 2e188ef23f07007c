-- Journals, and the list by which contracts know a core.
use Rattle.std.specs.Prelude.{ℕ, List, [], ◌∷◌, map, Option}
use Rattle.ghc_term.specs.declared.goal_name.GoalName.{GoalName}
use Rattle.ghc_flat.specs.Clause.{Program, Query}
use Rattle.ghc_fire.specs.declared.act.Act.{Act}
use Rattle.ghc_records.specs.Record.{Record}

-- A step as journals and histories have it: its number, the goal that it consumed, if any, and its act.
pub record Step : Type 0 where
  pub number : ℕ
  pub goal : Option GoalName
  pub act : Act

-- The step of a record.
abbrev pub step_of : Record → Step
step_of r = record { number = r.number; goal = r.goal; act = r.act }

-- A journal entry: a step was taken, step n was undone, rolled back or redone, or the record was put into another order.
pub data Entry : Type 0 where
  took : Step → Entry
  undid : ℕ → Entry
  rolled : ℕ → Entry
  redid : ℕ → Entry
  reordered : List ℕ → Entry

-- An opening: the program, the query, the names of the query's variables by number, the steps that were loaded, and the number that the next step gets.
pub record Opening : Type 0 where
  pub program : Program
  pub query : Query
  pub names : List (List ℕ)
  pub steps : List Step
  pub next : ℕ

-- The opening of a query where nothing was loaded.
abbrev pub fresh_opening : Program → Query → List (List ℕ) → Opening
fresh_opening P query names = record { program = P; query = query; names = names; steps = []; next = 1 }

-- The journal that an opening begins with: an entry for each loaded step.
abbrev pub opening_journal : Opening → List Entry
opening_journal o = map took o.steps

-- One item of the list by which contracts know a core.
pub data Item : Type 0 where
  opened : Opening → Item
  entered : Entry → Item

-- The list by which contracts know a core: the opening, then the entries of the journal. Places and lengths count the entries alone.
abbrev pub history : Opening → List Entry → List Item
history o es = opened o ∷ map entered es
