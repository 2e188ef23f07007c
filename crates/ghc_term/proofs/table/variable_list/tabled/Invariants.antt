use Rattle.std.proofs.Common.{◌≡◌, take}
use Rattle.ghc_term.proofs.table.variable_list.tabled.Given as goal

abbrev pub invariant-loop-y : goal.invariant-loop-y
invariant-loop-y l = l.table.keys ≡ take l.y-index l.list.items
