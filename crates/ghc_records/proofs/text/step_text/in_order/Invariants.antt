use Rattle.ghc_records.proofs.Words.{◌≡◌, ◌||◌, drop, VarName}
use Rattle.ghc_records.proofs.NameOrder.{has}
use Rattle.ghc_records.proofs.text.step_text.in_order.Given as goal

abbrev pub invariant-loop-x : goal.invariant-loop-x
invariant-loop-x l = (q : VarName) → (has q l.names.keys || has q (drop l.x-index l.x-items)) ≡ has q l.x-items
