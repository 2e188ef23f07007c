use Rattle.ghc_shared.proofs.Words.{◌+◌, length, history, code_of}
use Rattle.ghc_shared.proofs.tests.passes.four_passes.Given as goal

abbrev pub ghosts-four_named-N-Naming : goal.ghosts-four_named-N-Naming
ghosts-four_named-N-Naming g a = record { table = a.opening.table; opened = code_of a.opening.value.world.opening; base = length (history a.opening.value.world.opening a.opening.value.world.journal); passes = a.opening.passes }

abbrev pub ghosts-four_named-N-Ledger : goal.ghosts-four_named-N-Ledger
ghosts-four_named-N-Ledger g a = record { name = a.opening.name; parts = a.opening.passes + 1 }
