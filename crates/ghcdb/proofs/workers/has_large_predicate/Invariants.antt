use Rattle.std.proofs.Common.{ℕ, ◌<◌, get_or}
use Rattle.ghc_flat.specs.Clause.{Clause}
use Rattle.ghcdb.proofs.ManyClauses.{HasFew}
use Rattle.ghcdb.proofs.workers.has_large_predicate.Given as goal

abbrev pub invariant-loop-clause : goal.invariant-loop-clause
invariant-loop-clause l = (k : ℕ) (d : Clause) → k < l.clause-index → HasFew l.program (get_or l.program k d)
