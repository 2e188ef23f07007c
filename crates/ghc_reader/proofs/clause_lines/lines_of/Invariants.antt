use Rattle.ghc_reader.proofs.Words.{take, clause_views, Each}
use Rattle.ghc_reader.specs.ClauseLines.{BeginsAt}
use Rattle.ghc_reader.proofs.clause_lines.lines_of.Given as goal

abbrev pub invariant-loop-clause : goal.invariant-loop-clause
invariant-loop-clause l = Each (BeginsAt l.lexed.tokens.items l.lexed.places.items) (clause_views (take l.clause-index l.clauses)) l.lines.items
