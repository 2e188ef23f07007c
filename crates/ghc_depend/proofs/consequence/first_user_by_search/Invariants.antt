use Rattle.ghc_depend.proofs.Using.{NoUserBefore}
use Rattle.ghc_depend.proofs.consequence.first_user_by_search.Given as goal

abbrev pub invariant-loop-place : goal.invariant-loop-place
invariant-loop-place l = NoUserBefore l.records.slots l.number l.place
