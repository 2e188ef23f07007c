use Rattle.ghc_hooks.proofs.Words.{take, TellsStatuses}
use Rattle.ghc_hooks.proofs.face.statuses.Statuses.of.Given as goal

-- the statuses of the goals so far
abbrev pub invariant-loop-name : goal.invariant-loop-name
invariant-loop-name l = TellsStatuses l.program l.goals.held l.store.held (take l.name-index l.names) l.statuses
