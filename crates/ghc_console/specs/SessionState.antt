-- The state of a session, and the predicates that commands leave spied.
use Rattle.std.specs.Prelude.{◌≡◌, ℕ, List, length, ◌++◌, codes}
use Rattle.std.specs.Fmt.{decimal}
use Rattle.std.specs.FinSet as set
use Rattle.ghc_flat.specs.Clause.{Clause, Program, IsClause}
use Rattle.ghc_core.specs.World.{World}
use Rattle.ghc_trace.specs.Spies.{Spies, predicate}
use Rattle.ghc_console.specs.declared.command.LineCommand.{LineCommand}
use Rattle.ghc_console.specs.declared.command.LineCommand.TheVariants.{Spy as spy, Unspy as unspy}
use Rattle.ghc_console.specs.declared.debugger.Debugger.{Debugger}

-- What replies depend on: the world and the predicates that are spied, which commands change; by how many workers a run is made; and the lines of the program's text at which its clauses begin.
pub record SessionState : Type 0 where
  pub world : World
  pub spies : Spies
  pub workers : ℕ
  pub clause_lines : List ℕ

-- the state of a debugger
abbrev pub state_of : Debugger → SessionState
state_of d = record { world = d.core.world; spies = d.spies; workers = d.workers; clause_lines = d.clause_lines }

-- The program has a clause of this name and arity.
abbrev pub HasClauseFor : Program → List ℕ → ℕ → Type 0
HasClauseFor P f n = (k : ℕ) × (c : Clause) × IsClause P k c × (c.name ≡ f) × (length c.head ≡ n)

-- a predicate as it is written, by its name and its arity
abbrev pub predicate_text : List ℕ → ℕ → List ℕ
predicate_text f n = f ++ (codes "/" ++ decimal n)

-- Where the predicate has a clause, it is one of those spied after, with those before; else those before are left.
pub record AddsSpy (P : Program) (f : List ℕ) (n : ℕ) (before after : Spies) : Type 0 where
  pub defined : HasClauseFor P f n → after ≡ set.insert before (predicate f n)
  pub undefined : ¬ HasClauseFor P f n → after ≡ before

-- LeavesSpies P before c after: where these predicates of the program P are spied before, the command c leaves those spied after. `spy` adds a predicate that has a clause, `nospy` takes one out, and every other command leaves all as they were.
abbrev pub LeavesSpies : Program → Spies → LineCommand → Spies → Type 0
LeavesSpies P before (spy f n) after = AddsSpy P f n before after
LeavesSpies P before (unspy f n) after = after ≡ set.remove before (predicate f n)
LeavesSpies P before c after = after ≡ before
