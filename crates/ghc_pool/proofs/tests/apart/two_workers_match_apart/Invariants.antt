use Rattle.ghc_pool.proofs.Words.{◌+◌, length, history, code_of}
use Rattle.ghc_pool.proofs.tests.apart.two_workers_match_apart.Given as goal

abbrev pub ghosts-met-N-Naming : goal.ghosts-met-N-Naming
ghosts-met-N-Naming g a = record { table = a.opening.table; opened = code_of a.opening.value.world.opening; base = length (history a.opening.value.world.opening a.opening.value.world.journal); passes = a.opening.passes }

abbrev pub ghosts-met-N-Ledger : goal.ghosts-met-N-Ledger
ghosts-met-N-Ledger g a = record { name = a.opening.name; parts = a.opening.passes + 1 }
