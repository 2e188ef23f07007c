use Rattle.ghc_records.proofs.Words.{◌≡◌, ◌++◌, shown_by}
use Rattle.std.specs.FinMap as finite
use Rattle.ghc_records.proofs.shelf.Shelf.by_number.Given as goal

abbrev pub invariant-loop-number : goal.invariant-loop-number
invariant-loop-number l = finite.from_entries (l.number-iterator.iter ++ shown_by (λ t. t.now) l.ordered.entries) ≡ l.self.held
