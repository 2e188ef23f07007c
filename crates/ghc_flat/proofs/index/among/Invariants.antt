use Rattle.ghc_flat.proofs.Words.{◌≡◌, bytes_eq, lookup}
use Rattle.ghc_flat.proofs.index.among.Given as goal

abbrev pub invariant-loop-other : goal.invariant-loop-other
invariant-loop-other l = lookup (bytes_eq l.name) l.names.entries ≡ lookup (bytes_eq l.name) l.other-iterator
