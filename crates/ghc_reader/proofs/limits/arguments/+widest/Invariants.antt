use Rattle.ghc_reader.proofs.Words.{◌≡◌, take, views, widest_of}
use Rattle.ghc_reader.proofs.limits.arguments.+widest.Given as goal

abbrev pub invariant-widest_of-loop-term : goal.invariant-widest_of-loop-term
invariant-widest_of-loop-term l = l.most ≡ widest_of (views (take l.term-index l.terms))
