use Rattle.ghc_flat.proofs.Words.{◌≡◌, length, AreMadeOf, AreSound}
use Rattle.ghc_flat.proofs.checker.check_clauses.Given as goal

abbrev pub invariant-loop-clause : goal.invariant-loop-clause
invariant-loop-clause l = (l.number ≡ length l.yielded) × AreMadeOf l.yielded l.clauses.items × AreSound l.index l.clauses.items
