use Rattle.std.proofs.Common.{◌≡◌, take}
use Rattle.ghc_records.proofs.text.asking_reading.copy_variables.Given as goal

abbrev pub invariant-loop-variable : goal.invariant-loop-variable
invariant-loop-variable l = l.copied.items ≡ take l.variable-index l.variables
