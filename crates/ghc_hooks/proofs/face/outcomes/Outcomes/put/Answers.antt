use Rattle.ghc_hooks.proofs.Words.{outcome_of, arith}
use Rattle.ghc_hooks.proofs.Pairs.{outcome_inserted}
use Rattle.ghc_hooks.proofs.face.outcomes.Outcomes.put.Goals as goal

pub returns : goal.returns
returns c = grind (arith, outcome_inserted, outcome_of)
