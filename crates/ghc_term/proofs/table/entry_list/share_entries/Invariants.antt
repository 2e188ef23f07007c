use Rattle.std.proofs.Common.{◌≡◌, take}
use Rattle.ghc_term.proofs.table.entry_list.share_entries.Given as goal

abbrev pub invariant-loop-x : goal.invariant-loop-x
invariant-loop-x l = l.shared.items ≡ take l.x-index l.entries
