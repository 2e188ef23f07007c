use Rattle.ghc_depend.specs.Lawful.{AreInTime}
use Rattle.ghc_depend.proofs.lawful_order.first_too_early.Given as goal

abbrev pub invariant-loop-place : goal.invariant-loop-place
invariant-loop-place l = AreInTime l.records.held l.order l.place
