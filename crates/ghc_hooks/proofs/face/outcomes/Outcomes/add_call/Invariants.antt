use Rattle.std.proofs.Common.{take}
use Rattle.ghc_hooks.proofs.FoundFace.{OutcomesBesides}
use Rattle.ghc_hooks.proofs.face.outcomes.Outcomes.add_call.Given as goal

-- the outcomes of the clauses so far are there
abbrev pub invariant-loop-number : goal.invariant-loop-number
invariant-loop-number l = OutcomesBesides l.program l.store.held l.name l.arguments l.goal l.initial.self (take l.number-index l.number-items) l.self
