use Rattle.ghc_pool.proofs.Words.{◌+◌, length, history, code_of}
use Rattle.ghc_pool.proofs.tests.unifications.offer_woken.Given as goal

abbrev pub ghosts-worked_off-N-Naming : goal.ghosts-worked_off-N-Naming
ghosts-worked_off-N-Naming g a = record { table = a.opening.table; opened = code_of a.opening.value.world.opening; base = length (history a.opening.value.world.opening a.opening.value.world.journal); passes = a.opening.passes }

abbrev pub ghosts-worked_off-N-Ledger : goal.ghosts-worked_off-N-Ledger
ghosts-worked_off-N-Ledger g a = record { name = a.opening.name; parts = a.opening.passes + 1 }
