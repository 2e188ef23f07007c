-- How much is read of a program, and that it is enough.
use Rattle.std.specs.Prelude.{◌↔◌, ◌+◌, ◌≤◌, ℕ, List, Option, length, take}
use Rattle.std.specs.Io.KnownBytes.{Consumes}
use Rattle.ghc_term.specs.declared.fault.Fault.{Fault}
use Rattle.ghc_term.specs.Limit.{text_limit}
use Rattle.ghc_reader.specs.Read.{IsReadProgram}
use Rattle.ghc_reader.specs.Tests.{a_program, IsRefusal}
use Rattle.ghc_reader.specs.Written.{WrittenClause}

-- so many bytes at most: one more than a program may have
abbrev pub most_read : ℕ
most_read = text_limit + 1

-- The bytes to come are now those after the ones that were taken, which are no more than this.
abbrev pub TakesAtMost : ℕ → Option (List ℕ) → Option (List ℕ) → Type 0
TakesAtMost most old new = (taken : List ℕ) × Consumes old new taken × (length taken ≤ most)

-- What is read of a text is read as the same program as the whole text, and refused as it is.
abbrev pub FrontTells : Type 0
FrontTells =
    (text : List ℕ)
    → ((written : List WrittenClause) → IsReadProgram (take most_read text) written ↔ IsReadProgram text written)
    × ((fault : Fault) → IsRefusal a_program (take most_read text) fault ↔ IsRefusal a_program text fault)
