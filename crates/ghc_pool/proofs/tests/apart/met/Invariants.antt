use Rattle.ghc_pool.proofs.tests.apart.met.Given as goal

abbrev pub ghosts-work_together-L-Limited : goal.ghosts-work_together-L-Limited
ghosts-work_together-L-Limited g a = record { limit = a.limit }

abbrev pub ghosts-work_together-L-Ledger : goal.ghosts-work_together-L-Ledger
ghosts-work_together-L-Ledger g a = record { name = a.blank.name; parts = a.blank.parts }
