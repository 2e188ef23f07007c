use Rattle.ghc_term.proofs.VariableLists.{one_alone}
use Rattle.ghc_term.proofs.bindings.Bindings.insert_near.Goals as goal

pub invariant_of-self : goal.invariant_of-self
invariant_of-self c = one_alone c.args.x
