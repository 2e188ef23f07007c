use Rattle.std.proofs.Common.{length}
use Rattle.ghc_reader.proofs.Cutting.{LexedSoFar}
use Rattle.ghc_reader.proofs.lexer.cut_into.Given as goal

abbrev pub invariant-loop-rest : goal.invariant-loop-rest
invariant-loop-rest l = LexedSoFar l.reserved l.text l.lexed.tokens.items l.lexed.places.items l.place l.signs l.rest

abbrev pub decreases-loop-rest : goal.decreases-loop-rest
decreases-loop-rest l = length l.rest
