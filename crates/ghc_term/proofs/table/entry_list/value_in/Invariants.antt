use Rattle.ghc_term.proofs.Words.{◌≡◌, drop, name_cmp}
use Rattle.std.specs.FinMap as finite
use Rattle.ghc_term.proofs.table.entry_list.value_in.Given as goal

abbrev pub invariant-loop-y : goal.invariant-loop-y
invariant-loop-y l = finite.find name_cmp l.x l.list ≡ finite.find name_cmp l.x (drop l.y-index l.list)
