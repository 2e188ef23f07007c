-- Laws of reading and printing.
use Rattle.std.specs.Prelude.{◌≡◌, ℕ, ◌≤◌, List, [], length, Option, Result}
use Rattle.ghc_term.specs.declared.var_name.VarName.{VarName}
use Rattle.ghc_term.specs.declared.fault.Fault.{Fault}
use Rattle.ghc_term.specs.Answered.{Answered, IsExact}
use Rattle.ghc_term.specs.Tree.{Tree}
use Rattle.ghc_term.specs.Text.{term_text}
use Rattle.ghc_term.specs.Resolved.{IsTextOf}
use Rattle.ghc_term.specs.InputTerm.{IsInGrammar, IsInputTerm}
use Rattle.ghc_reader.specs.declared.token.Token.{Token}
use Rattle.ghc_reader.specs.declared.place.Place.{Place}
use Rattle.ghc_reader.specs.declared.lexer.value.Reserved.TheVariants.{Refused}
use Rattle.ghc_reader.specs.Lexed.{IsLexed}
use Rattle.ghc_reader.specs.Grammar.{Input, input}
use Rattle.ghc_reader.specs.Derived.{tree_of}
use Rattle.ghc_reader.specs.Lowered.{Names, Says}
use Rattle.ghc_reader.specs.Tests.{a_program, a_query, a_term, an_ask, a_body, IsRefusal}
use Rattle.ghc_reader.specs.Written.{WrittenClause, WrittenQuery, AreApart}
use Rattle.ghc_reader.specs.WrittenAsk.{WrittenAsk}
use Rattle.ghc_reader.specs.Read.{IsReadProgram, IsReadQuery, IsReadTerm, IsReadAsk, IsReadBody}

-- What is answered for the text of a program is exact: the program that it says, or its refusal, unless memory was refused.
abbrev pub ReadProgramIsExact : Type 0
ReadProgramIsExact =
    (text : List ℕ) (result : Result (List WrittenClause) Fault)
    → Answered (IsReadProgram text) (IsRefusal a_program text) result → IsExact (IsReadProgram text) (IsRefusal a_program text) result

-- What is answered for the text of a query is exact: the query that it says, or its refusal, unless memory was refused.
abbrev pub ReadQueryIsExact : Type 0
ReadQueryIsExact =
    (text : List ℕ) (result : Result WrittenQuery Fault)
    → Answered (IsReadQuery text) (IsRefusal a_query text) result → IsExact (IsReadQuery text) (IsRefusal a_query text) result

-- What is answered for the text of an input term is exact: the term that it says, or its refusal, unless memory was refused.
abbrev pub ReadTermIsExact : Type 0
ReadTermIsExact =
    (text : List ℕ) (result : Result Tree Fault)
    → Answered (IsReadTerm text) (IsRefusal a_term text) result → IsExact (IsReadTerm text) (IsRefusal a_term text) result

-- What is answered for the text of what is asked for in mid-run is exact, where the query gives its variables names of their own, or `_`: what the text says, or its refusal, unless memory was refused.
abbrev pub ReadAskIsExact : Type 0
ReadAskIsExact =
    (query : Names) (text : List ℕ) (result : Result WrittenAsk Fault)
    → AreApart query → Answered (IsReadAsk query text) (IsRefusal an_ask text) result → IsExact (IsReadAsk query text) (IsRefusal an_ask text) result

-- What is answered for the text of what a history says was asked for is exact: what the text says, or its refusal, unless memory was refused.
abbrev pub ReadBodyIsExact : Type 0
ReadBodyIsExact =
    (text : List ℕ) (result : Result WrittenAsk Fault)
    → Answered (IsReadBody text) (IsRefusal a_body text) result → IsExact (IsReadBody text) (IsRefusal a_body text) result

-- The tokens of the text are those of a derivation that says the term, whatever the limits on input terms.
pub record IsSpelledBy (text : List ℕ) (u : Tree) : Type 0 where
  pub tokens : List Token
  pub places : List Place
  pub lexed : IsLexed Refused text tokens places
  pub derivation : Input
  pub spelled : tokens ≡ input derivation []
  pub says : Says [] (tree_of derivation.term) u

-- Each term of the grammar is spelled by its text. The input terms are what texts are read as, and each is what its own text is read
-- as. So what was read is, as it is written, read again as itself, from a text that is no longer; and so it is as it is printed,
-- whatever variables stand for.
pub record PrintedTermsAreReadAgain : Type 0 where
  pub spelled : (u : Tree) → IsInGrammar u → IsSpelledBy (term_text u) u
  pub only : (text : List ℕ) (u : Tree) → IsReadTerm text u → IsInputTerm u
  pub each : (u : Tree) → IsInputTerm u → IsReadTerm (term_text u) u
  pub written : (text : List ℕ) (u : Tree) → IsReadTerm text u → IsReadTerm (term_text u) u
  pub no_longer : (text : List ℕ) (u : Tree) → IsReadTerm text u → length (term_text u) ≤ length text
  pub printed : (text out : List ℕ) (u : Tree) (S : VarName → Option Tree) → IsReadTerm text u → IsTextOf S u out → IsReadTerm out u
