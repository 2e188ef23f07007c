use Rattle.ghc_depend.proofs.InTime.{NoneInFront}
use Rattle.ghc_depend.proofs.lawful_order.count_in_time.Given as goal

abbrev pub invariant-loop-place : goal.invariant-loop-place
invariant-loop-place l = NoneInFront l.records.held l.order l.place l.in_time
