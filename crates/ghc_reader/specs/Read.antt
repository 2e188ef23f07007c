-- What a text is read as, in the terms of the language.
use Rattle.std.specs.Prelude.{◌≡◌, ℕ, List, []}
use Rattle.ghc_term.specs.Tree as term
use Rattle.ghc_reader.specs.Source.{Tree, Goal, Clause}
use Rattle.ghc_reader.specs.Tests.{a_program, a_query, a_term, an_ask, a_body, IsRead}
use Rattle.ghc_reader.specs.Written.{WrittenClause, WrittenQuery, AreApart}
use Rattle.ghc_reader.specs.Lowered.{Names, Each, Says, SaysClause, SaysQuery}
use Rattle.ghc_reader.specs.WrittenAsk.{WrittenAsk, SaysAsk}

-- The text is that of a program, no test refuses it, and these are its clauses.
abbrev pub IsReadProgram : List ℕ → List WrittenClause → Type 0
IsReadProgram text source = (seen : List Clause) × IsRead a_program text seen × Each SaysClause seen source

-- The text is that of a query, no test refuses it, and this is the query.
abbrev pub IsReadQuery : List ℕ → WrittenQuery → Type 0
IsReadQuery text q = (seen : List Goal) × IsRead a_query text seen × SaysQuery seen q

-- The text is that of an input term, no test refuses it, and this is the term.
abbrev pub IsReadTerm : List ℕ → term.Tree → Type 0
IsReadTerm text u = (seen : Tree) × IsRead a_term text seen × Says [] seen u

-- The text is that of what is asked for in mid-run, no test refuses it, and this is what it says, where the query gives its variables these names.
abbrev pub IsReadAsk : Names → List ℕ → WrittenAsk → Type 0
IsReadAsk query text a = (seen : List Goal) × IsRead an_ask text seen × SaysAsk query seen a

-- The text is that of what is asked for as a history has it, of any length and depth, no other test refuses it, and this is what it says, where no variable is named as one of a query.
abbrev pub IsReadBody : List ℕ → WrittenAsk → Type 0
IsReadBody text a = (seen : List Goal) × IsRead a_body text seen × SaysAsk [] seen a

-- The text is read as no two programs, no two queries, no two input terms; and, where a query gives its variables names of their own, or `_`, it asks for no two things.
pub record IsReadInOneWay (text : List ℕ) : Type 0 where
  pub program : (source other : List WrittenClause) → IsReadProgram text source → IsReadProgram text other → source ≡ other
  pub query : (q other : WrittenQuery) → IsReadQuery text q → IsReadQuery text other → q ≡ other
  pub term : (u other : term.Tree) → IsReadTerm text u → IsReadTerm text other → u ≡ other
  pub ask : (query : Names) (a other : WrittenAsk) → AreApart query → IsReadAsk query text a → IsReadAsk query text other → a ≡ other

-- Each text is read in one way.
abbrev pub EachTextIsReadInOneWay : Type 0
EachTextIsReadInOneWay = (text : List ℕ) → IsReadInOneWay text
