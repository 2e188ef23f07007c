use Rattle.ghc_core.proofs.Words.{inr, no_goal}
use Rattle.ghc_core.proofs.core_state.Core.try_named.Goals as goal

pub returns-in_default-clause-answer : goal.returns-in_default-clause-answer
returns-in_default-clause-answer c = (tt, inr (no_goal c.in_default.ensures.none))
