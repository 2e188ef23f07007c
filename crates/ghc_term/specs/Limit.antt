-- How long texts may be, and the words for limits.
use Rattle.std.specs.Prelude.{ℕ, List, codes}
use Rattle.ghc_term.specs.declared.limit.Limit.{Limit}
use Rattle.ghc_term.specs.declared.limit.Limit.TheVariants.{Text, Clauses, Arity, Depth, Goals, Variables, Term, Print, Line, Version}

-- the most bytes of a program, a query, an input term or what is asked for in mid-run
abbrev pub text_limit : ℕ
text_limit = 1048576

-- the word for a limit, as a refusal shows it
abbrev pub limit_word : Limit → List ℕ
limit_word Text = codes "text"
limit_word Clauses = codes "clauses"
limit_word Arity = codes "arity"
limit_word Depth = codes "depth"
limit_word Goals = codes "goals"
limit_word Variables = codes "variables"
limit_word Term = codes "term"
limit_word Print = codes "print"
limit_word Line = codes "line"
limit_word Version = codes "version"
