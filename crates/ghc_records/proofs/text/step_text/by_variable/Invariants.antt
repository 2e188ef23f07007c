use Rattle.std.proofs.Common.{◌≡◌, drop}
use Rattle.std.specs.FinMap as finite
use Rattle.ghc_records.proofs.BindingOrder.{poured, shown}
use Rattle.ghc_records.proofs.text.step_text.by_variable.Given as goal

abbrev pub invariant-loop-x : goal.invariant-loop-x
invariant-loop-x l = poured (finite.from_entries (shown (λ t. t.now) l.ordered.entries)) (drop l.x-index l.x-items) ≡ l.binds
