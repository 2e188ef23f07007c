use Rattle.std.proofs.Common.{take}
use Rattle.ghc_depend.proofs.InTime.{AreNoFurther}
use Rattle.ghc_depend.proofs.lawful_order.first_of.Given as goal

abbrev pub invariant-loop-number : goal.invariant-loop-number
invariant-loop-number l = AreNoFurther l.places.keys l.place (take l.number-index l.numbers) l.first l.least
