-- What the texts of a program and a query start: both of them, read and checked, or a refusal.
use Rattle.std.specs.Prelude.{◌≡◌, ℕ, List, Result}
use Rattle.ghc_term.specs.declared.fault.Fault.TheVariants.{Memory}
use Rattle.ghc_term.specs.Answered.{AnsweredUnless, IsExactUnless}
use Rattle.ghc_reader.specs.Written.{WrittenClause, WrittenQuery}
use Rattle.ghc_reader.specs.Read.{IsReadProgram, IsReadQuery}
use Rattle.ghc_reader.specs.Tests.{a_program, a_query, IsRefusal}
use Rattle.ghc_flat.specs.Checked.{HasClause, AreFaultless, IsAcceptedAs, IsProgramFault, IsQueryFault}
use Rattle.ghc_flat.specs.declared.refused.Refused.{Refused}
use Rattle.ghc_flat.specs.declared.refused.Refused.TheVariants as refused
use Rattle.ghcdb.specs.declared.refusal.Refusal.{Refusal}
use Rattle.ghcdb.specs.declared.refused_part.RefusedPart.{RefusedPart}
use Rattle.ghcdb.specs.declared.refused_part.RefusedPart.TheVariants as part
use Rattle.ghcdb.specs.declared.start.Started.{Started}

-- The program's text is read as clauses, and the query's as the query; they are accepted, as the program.
pub record IsStarted (program_text : List ℕ) (query_text : List ℕ) (started : Started) : Type 0 where
  pub written : List WrittenClause
  pub reads_program : IsReadProgram program_text written
  pub reads_query : IsReadQuery query_text started.query
  pub accepted : IsAcceptedAs written started.query.goals started.program

-- No memory is left, and the refusal names this part.
pub record IsNoMemoryFor (told_of : RefusedPart) (refusal : Refusal) : Type 0 where
  pub fault : refusal.fault ≡ Memory
  pub part_is : refusal.part ≡ told_of

-- No memory is left: for the program, whether it is read or checked; or for the reading of the query, where the program's text is read.
pub data IsOutOfMemory (program_text : List ℕ) (refusal : Refusal) : Type 0 where
  for_program : IsNoMemoryFor part.Program refusal → IsOutOfMemory program_text refusal
  for_query : (written : List WrittenClause) → IsReadProgram program_text written → IsNoMemoryFor part.Query refusal → IsOutOfMemory program_text refusal

-- The texts are read as these clauses and this query.
pub record AreRead (program_text : List ℕ) (query_text : List ℕ) (written : List WrittenClause) (query : WrittenQuery) : Type 0 where
  pub reads_program : IsReadProgram program_text written
  pub reads_query : IsReadQuery query_text query

-- The refusal is the first of these: of the program's text; of the query's text, where the program's is read; for the fault of the program's clauses, where both are read; for the query's undefined call, where the program is right.
pub data IsStartRefusal (program_text : List ℕ) (query_text : List ℕ) (refusal : Refusal) : Type 0 where
  of_program : refusal.part ≡ part.Program → IsRefusal a_program program_text refusal.fault → IsStartRefusal program_text query_text refusal
  of_query :
      (written : List WrittenClause)
      → IsReadProgram program_text written
      → refusal.part ≡ part.Query
      → IsRefusal a_query query_text refusal.fault
      → IsStartRefusal program_text query_text refusal
  of_clauses :
      (written : List WrittenClause) (query : WrittenQuery)
      → AreRead program_text query_text written query
      → refusal.part ≡ part.Program
      → IsProgramFault written refusal.fault
      → IsStartRefusal program_text query_text refusal
  of_calls :
      (written : List WrittenClause) (query : WrittenQuery)
      → AreRead program_text query_text written query
      → refusal.part ≡ part.Query
      → AreFaultless (HasClause written) written
      → IsQueryFault written query.goals refusal.fault
      → IsStartRefusal program_text query_text refusal

-- What is answered for the texts is exact: what they start, or the first refusal, unless memory was refused.
abbrev pub StartIsExact : Type 0
StartIsExact =
    (program_text query_text : List ℕ) (result : Result Started Refusal)
    → AnsweredUnless (IsOutOfMemory program_text) (IsStarted program_text query_text) (IsStartRefusal program_text query_text) result
    → IsExactUnless (IsOutOfMemory program_text) (IsStarted program_text query_text) (IsStartRefusal program_text query_text) result

-- what a refusal by the checker is: the fault, of the text at fault
abbrev pub told_of : Refused → Refusal
told_of (refused.Program e) = record { part = part.Program; fault = e }
told_of (refused.Query e) = record { part = part.Query; fault = e }
