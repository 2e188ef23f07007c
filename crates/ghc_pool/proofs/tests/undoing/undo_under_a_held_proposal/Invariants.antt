use Rattle.ghc_pool.proofs.Words.{◌+◌, length, history, code_of}
use Rattle.ghc_pool.proofs.tests.undoing.undo_under_a_held_proposal.Given as goal

abbrev pub ghosts-undo_named-N-Naming : goal.ghosts-undo_named-N-Naming
ghosts-undo_named-N-Naming g a = record { table = a.opening.table; opened = code_of a.opening.value.world.opening; base = length (history a.opening.value.world.opening a.opening.value.world.journal); passes = a.opening.passes }

abbrev pub ghosts-undo_named-N-Ledger : goal.ghosts-undo_named-N-Ledger
ghosts-undo_named-N-Ledger g a = record { name = a.opening.name; parts = a.opening.passes + 1 }
