use Rattle.ghc_trace.proofs.Words.{take}
use Rattle.ghc_trace.specs.Causes.{HasNumbered}
use Rattle.ghc_trace.proofs.slices.add_numbered.Given as goal

abbrev pub invariant-loop-n : goal.invariant-loop-n
invariant-loop-n l = HasNumbered l.records.slots (take l.n-index l.ns) l.initial.places.keys l.places.keys
