use Rattle.ghc_fire.proofs.Words.{◌≡◌, ◌++◌, List, [], drop, list_any, eq_by_cmp, VarName, name_cmp, firsts}
use Rattle.std.specs.FinSet as set
use Rattle.ghc_fire.proofs.called.each_once.Given as goal

abbrev pub invariant-loop-x : goal.invariant-loop-x
invariant-loop-x l =
    (seen : List VarName) × ((y : VarName) → set.contains l.seen y ≡ list_any (eq_by_cmp name_cmp y) seen)
    × (l.once.items ++ firsts seen (drop l.x-index l.xs) ≡ firsts [] l.xs)
