use Rattle.ghc_depend.proofs.Words.{◌≤◌}
use Rattle.ghc_depend.proofs.Using.{UsersBeforeNoFurther}
use Rattle.ghc_depend.proofs.lawful_order.first_by_search.Given as goal

abbrev pub invariant-loop-slot : goal.invariant-loop-slot
invariant-loop-slot l = (l.least ≤ l.first) × UsersBeforeNoFurther l.records.slots l.number l.slot l.places.keys l.place l.least
