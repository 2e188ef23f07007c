use Rattle.ghc_term.proofs.VariableLists.{nothing}
use Rattle.ghc_term.proofs.table.variable_list.VariableList.with_capacity.Goals as goal

pub invariant_of-result : goal.invariant_of-result
invariant_of-result c = nothing c.in_ok-list.list.items c.in_ok-list.ensures.items
