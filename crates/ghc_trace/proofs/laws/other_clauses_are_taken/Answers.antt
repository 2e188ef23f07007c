use Rattle.ghc_trace.proofs.TakenAgain.{others_taken}
use Rattle.ghc_trace.proofs.laws.other_clauses_are_taken.Goals as goal

pub returns : goal.returns
returns c = others_taken
