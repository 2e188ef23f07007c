use Rattle.ghc_term.proofs.Words.{ap, keys_of}
use Rattle.ghc_term.proofs.VariableLists.{nothing}
use Rattle.ghc_term.proofs.bindings.Bindings.with_capacity.Goals as goal

pub invariant_of-result : goal.invariant_of-result
invariant_of-result c = nothing (keys_of c.in_ok-list.list.items) (ap keys_of c.in_ok-list.ensures.items)
