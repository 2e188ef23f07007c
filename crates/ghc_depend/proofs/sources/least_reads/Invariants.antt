use Rattle.ghc_depend.proofs.Words.{take, Binds}
use Rattle.ghc_depend.proofs.Sourcing.{AreLeast}
use Rattle.ghc_depend.proofs.sources.least_reads.Given as goal

abbrev pub invariant-loop-x : goal.invariant-loop-x
invariant-loop-x l = AreLeast l.records.slots Binds (take l.x-index l.x-items) l.reads
