-- What the texts of a program, a query and a history start. It is the core of the program and the query, on which the history is loaded where there is one, and the predicates that are spied; or a refusal.
use Rattle.std.specs.Prelude.{◌≡◌, ℕ, List, Option, None, Some, Ok, Err}
use Rattle.std.specs.FinSet as set
use Rattle.ghc_term.specs.declared.fault.Fault.{Fault}
use Rattle.ghc_reader.specs.ClauseLines.{AreClauseLines}
use Rattle.ghc_records.specs.Journal.{fresh_opening}
use Rattle.ghc_records.specs.History.{History}
use Rattle.ghc_records.specs.HistoryText.{IsLine, TellsHistory, IsHistoryRefusal}
use Rattle.ghc_records.specs.Chronicle.{Chronicle}
use Rattle.ghc_records.specs.ChronicleText.{TellsChronicle, IsChronicleRefusal, chronicle_heading}
use Rattle.ghc_core.specs.World.{World, Opens}
use Rattle.ghc_core.specs.Load.{Loads}
use Rattle.ghc_core.specs.Resume.{Resumes}
use Rattle.ghc_trace.specs.Spies.{Spies, spied_of}
use Rattle.ghc_console.specs.declared.debugger.Debugger.{Debugger}
use Rattle.ghcdb.specs.Start.{IsStarted, IsStartRefusal, IsNoMemoryFor, IsOutOfMemory}
use Rattle.ghcdb.specs.declared.refusal.Refusal.{Refusal}
use Rattle.ghcdb.specs.declared.refused_part.RefusedPart.TheVariants as part
use Rattle.ghcdb.specs.declared.start.Started.{Started}

-- GivesBack s text w spies: what the text tells leaves the world w, with these predicates spied. A text of version 1 tells a history, which is loaded, and no predicate is spied; one of version 2 tells a chronicle, which is carried out, and its predicates are spied.
pub data GivesBack (s : Started) (text : List ℕ) (w : World) : Spies → Type 0 where
  loads : (h : History) → TellsHistory text h → Loads ⊥ s.program s.query.goals s.query.variables h (Ok w) → GivesBack s text w set.empty
  resumes : (c : Chronicle) → TellsChronicle text c → Resumes s.program s.query.goals s.query.variables c ⊥ (Ok w) → GivesBack s text w (spied_of c.spies)

-- OpensOn s history w spies: the world w is that of the query before any step, and no predicate is spied, where no history is given; else the text gives both back.
abbrev pub OpensOn : Started → Option (List ℕ) → World → Spies → Type 0
OpensOn s None w spies = Opens (fresh_opening s.program s.query.goals s.query.variables) w × (spies ≡ set.empty)
OpensOn s (Some text) w spies = GivesBack s text w spies

-- The text is one of version 2, by its first line.
abbrev pub IsOfVersionTwo : List ℕ → Type 0
IsOfVersionTwo text = IsLine text 0 chronicle_heading

-- Why the text gives nothing back: a text of version 1 tells no history, or a step of that is not possible. One of version 2 tells no chronicle, or that is not carried out.
pub data IsHistoryFault (s : Started) (text : List ℕ) (fault : Fault) : Type 0 where
  of_text : ¬ IsOfVersionTwo text → IsHistoryRefusal text fault → IsHistoryFault s text fault
  of_step : (h : History) → TellsHistory text h → Loads ⊥ s.program s.query.goals s.query.variables h (Err fault) → IsHistoryFault s text fault
  of_chronicle : IsOfVersionTwo text → IsChronicleRefusal text fault → IsHistoryFault s text fault
  of_entry : (c : Chronicle) → TellsChronicle text c → Resumes s.program s.query.goals s.query.variables c ⊥ (Err fault) → IsHistoryFault s text fault

-- A history is given, and it is refused.
pub record IsHistoryRefused (s : Started) (history : Option (List ℕ)) (refusal : Refusal) : Type 0 where
  pub text : List ℕ
  pub given : history ≡ Some text
  pub part_is : refusal.part ≡ part.History
  pub fault : IsHistoryFault s text refusal.fault

-- The texts start what the session begins with: program and query are accepted, the history is loaded where there is one, and the lines are those at which the program's clauses begin.
pub record IsDebuggerOf (program_text : List ℕ) (query_text : List ℕ) (history : Option (List ℕ)) (debugger : Debugger) : Type 0 where
  pub started : Started
  pub starts : IsStarted program_text query_text started
  pub opens : OpensOn started history debugger.core.world debugger.spies
  pub lines : AreClauseLines program_text debugger.clause_lines

-- The refusal is that of the program or the query, or else of the history.
pub data IsOpenRefusal (program_text : List ℕ) (query_text : List ℕ) (history : Option (List ℕ)) (refusal : Refusal) : Type 0 where
  of_start : IsStartRefusal program_text query_text refusal → IsOpenRefusal program_text query_text history refusal
  of_history : (s : Started) → IsStarted program_text query_text s → IsHistoryRefused s history refusal → IsOpenRefusal program_text query_text history refusal

-- No memory is left: for the start of program and query, the core before any step among it; or for a history that is given, where they are started.
pub data IsWithoutMemory (program_text : List ℕ) (query_text : List ℕ) (history : Option (List ℕ)) (refusal : Refusal) : Type 0 where
  at_start : IsOutOfMemory program_text refusal → IsWithoutMemory program_text query_text history refusal
  for_history :
      (started : Started) (text : List ℕ)
      → IsStarted program_text query_text started
      → history ≡ Some text
      → IsNoMemoryFor part.History refusal
      → IsWithoutMemory program_text query_text history refusal
