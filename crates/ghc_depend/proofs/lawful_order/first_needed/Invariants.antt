use Rattle.ghc_depend.proofs.InTime.{NoneNeededIn}
use Rattle.ghc_depend.proofs.lawful_order.first_needed.Given as goal

abbrev pub invariant-loop-slot : goal.invariant-loop-slot
invariant-loop-slot l = NoneNeededIn l.records.slots l.places.keys l.fn.place l.later l.slot
