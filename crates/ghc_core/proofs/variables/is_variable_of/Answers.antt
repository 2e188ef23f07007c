use Rattle.ghc_core.proofs.Words.{subst₂, ◌↔◌, IsTrue, IsVariableOf}
use Rattle.ghc_core.proofs.variables.is_variable_of.Goals as goal

pub returns : goal.returns
returns c = subst₂ (λ query rs. IsTrue c.is_of.result ↔ IsVariableOf query rs c.args.x) c.query.ensures.goals c.records.ensures c.is_of.ensures
