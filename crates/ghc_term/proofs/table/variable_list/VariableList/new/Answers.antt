use Rattle.std.specs.List.{IsDistinct}
use Rattle.ghc_term.proofs.table.variable_list.VariableList.new.Goals as goal

pub invariant_of-result : goal.invariant_of-result
unfolding IsDistinct
invariant_of-result c = tt
