use Rattle.ghc_hooks.proofs.Words.{take, TellsHooks}
use Rattle.ghc_hooks.proofs.face.hooks.Hooks.of.Given as goal

-- the hooks of the goals so far
abbrev pub invariant-loop-name : goal.invariant-loop-name
invariant-loop-name l = TellsHooks l.statuses (take l.name-index l.names) l.hooks
