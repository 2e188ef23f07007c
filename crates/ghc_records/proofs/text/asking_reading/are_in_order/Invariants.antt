use Rattle.std.proofs.Common.{◌≤◌}
use Rattle.ghc_records.proofs.AskingLines.{AreMade}
use Rattle.ghc_records.proofs.text.asking_reading.are_in_order.Given as goal

abbrev pub invariant-loop-variable : goal.invariant-loop-variable
invariant-loop-variable l = record {
  few : l.place ≤ l.variable-index;
  made : AreMade l.variables l.step l.variable-index l.place;
}
