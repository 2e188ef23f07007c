use Rattle.ghc_shared.proofs.Words.{◌+◌, length, history, code_of}
use Rattle.ghc_shared.proofs.tests.readers.readers_share.Given as goal

abbrev pub ghosts-held_named-N-Naming : goal.ghosts-held_named-N-Naming
ghosts-held_named-N-Naming g a = record { table = a.opening.table; opened = code_of a.opening.value.world.opening; base = length (history a.opening.value.world.opening a.opening.value.world.journal); passes = a.opening.passes }

abbrev pub ghosts-held_named-N-Ledger : goal.ghosts-held_named-N-Ledger
ghosts-held_named-N-Ledger g a = record { name = a.opening.name; parts = a.opening.passes + 1 }
