use Rattle.ghc_pool.proofs.Words.{◌≡◌, vec_len}
use Rattle.ghc_pool.proofs.tests.round.Given as goal

abbrev pub invariant-loop-pass : goal.invariant-loop-pass
invariant-loop-pass g l = vec_len l.passes ≡ l.pass

abbrev pub ghosts-work_together-L-Limited : goal.ghosts-work_together-L-Limited
ghosts-work_together-L-Limited g a = record { limit = a.limit }

abbrev pub ghosts-work_together-L-Ledger : goal.ghosts-work_together-L-Ledger
ghosts-work_together-L-Ledger g a = record { name = a.blank.name; parts = a.blank.parts }
