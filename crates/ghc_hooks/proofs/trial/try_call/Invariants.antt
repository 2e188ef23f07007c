use Rattle.ghc_hooks.proofs.Words.{take, value_at}
use Rattle.ghc_hooks.proofs.Hearing.{IsHeard}
use Rattle.ghc_hooks.proofs.trial.try_call.Given as goal

-- the clauses so far have been heard
abbrev pub invariant-loop-number : goal.invariant-loop-number
invariant-loop-number l = IsHeard l.program l.arguments (value_at l.store.held) (take l.number-index l.number-items) l.heard
