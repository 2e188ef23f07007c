use Rattle.ghc_hooks.proofs.Words.{take, TellsOutcomes}
use Rattle.ghc_hooks.proofs.face.outcomes.Outcomes.of.Given as goal

-- the outcomes of the goals so far
abbrev pub invariant-loop-name : goal.invariant-loop-name
invariant-loop-name l = TellsOutcomes l.program l.goals.held l.store.held (take l.name-index l.names) l.outcomes
