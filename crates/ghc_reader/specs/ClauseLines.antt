-- The lines of a program's text at which its clauses begin.
use Rattle.std.specs.Prelude.{◌≡◌, ℕ, zero, suc, ◌-◌, List, length, Option, Some, None, slice_get}
use Rattle.ghc_reader.specs.declared.token.Token.{Token}
use Rattle.ghc_reader.specs.declared.place.Place.{Place}
use Rattle.ghc_reader.specs.Source.{Clause}
use Rattle.ghc_reader.specs.Lowered.{Each}
use Rattle.ghc_reader.specs.Tests.{a_program, IsRead}

-- BeginsAt tokens places c line: the clause c begins at this line, where its first token stands, the name of its head. These are the tokens of the text, with their places.
abbrev pub BeginsAt : List Token → List Place → Clause → ℕ → Type 0
BeginsAt tokens places c line = (place : Place) × (slice_get places (length tokens - c.head.left) ≡ Some place) × (line ≡ place.line)

-- The text is that of a program, no test refuses it, and these are the lines at which its clauses begin, in order.
pub record AreClauseLines (text lines : List ℕ) : Type 0 where
  pub seen : List Clause
  pub read : IsRead a_program text seen
  pub each : Each (BeginsAt read.tokens read.places) seen lines

-- the line of clause k, where it is one of those of which these are the lines; the first is clause 1
abbrev pub line_of : List ℕ → ℕ → Option ℕ
line_of lines zero = None
line_of lines (suc i) = slice_get lines i
