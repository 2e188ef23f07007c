use Rattle.ghc_depend.proofs.OrderWalks.{HaveSlots}
use Rattle.ghc_depend.proofs.places.first_missing.Given as goal

abbrev pub invariant-loop-slot : goal.invariant-loop-slot
invariant-loop-slot l = HaveSlots l.records.slots l.slot l.places.keys
