use Rattle.ghc_match.proofs.Words.{take, value_at, IsSetOf, EndsIn, Wants}
use Rattle.ghc_match.proofs.evaluation.unbound_ends.Given as goal

abbrev pub invariant-loop-name : goal.invariant-loop-name
invariant-loop-name l = IsSetOf l.wanted (Wants (EndsIn (value_at l.store.held)) (take l.name-index l.names))
