use Rattle.ghc_hooks.proofs.Words.{take, TellsPool}
use Rattle.ghc_hooks.proofs.face.pools.pool_of.Given as goal

-- those of the goals so far that are of the kind
abbrev pub invariant-loop-name : goal.invariant-loop-name
invariant-loop-name l = TellsPool l.statuses l.kind (take l.name-index l.names) l.pool.held
