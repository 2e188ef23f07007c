use Rattle.ghc_term.proofs.Words.{◌≡◌, ◌≤◌, length, with_binds}
use Rattle.ghc_term.proofs.table.entry_list.put_each.Given as goal

abbrev pub invariant-loop-x : goal.invariant-loop-x
invariant-loop-x l = (length l.entries.items ≤ l.map.room) × (with_binds l.entries.items l.map.held ≡ with_binds l.initial.entries.items l.initial.map.held)

abbrev pub decreases-loop-x : goal.decreases-loop-x
decreases-loop-x l = length l.entries.items
