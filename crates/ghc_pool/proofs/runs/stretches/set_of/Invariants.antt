use Rattle.ghc_pool.proofs.Words.{All, In}
use Rattle.ghc_pool.proofs.runs.stretches.set_of.Given as goal

abbrev pub invariant-loop-name : goal.invariant-loop-name
invariant-loop-name l = All (λ g. In g l.names) l.set.keys
