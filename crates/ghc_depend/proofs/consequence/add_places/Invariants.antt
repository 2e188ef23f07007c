use Rattle.std.proofs.Common.{take}
use Rattle.ghc_depend.proofs.Words.{HasPlacesOf}
use Rattle.ghc_depend.proofs.consequence.add_places.Given as goal

abbrev pub invariant-loop-n : goal.invariant-loop-n
invariant-loop-n l = HasPlacesOf l.records.slots (take l.n-index l.ns) l.initial.ahead.keys l.ahead.keys
