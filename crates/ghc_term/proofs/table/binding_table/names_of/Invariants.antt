use Rattle.ghc_term.proofs.Words.{◌≡◌, take, keys_of}
use Rattle.ghc_term.proofs.table.binding_table.names_of.Given as goal

abbrev pub invariant-loop-x : goal.invariant-loop-x
invariant-loop-x l = l.names ≡ keys_of (take l.x-index l.entries)
