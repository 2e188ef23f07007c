use Rattle.ghc_hooks.proofs.Words.{take, HooksBesides}
use Rattle.ghc_hooks.proofs.face.hooks.Hooks.put_all.Given as goal

-- the goal is hooked on the variables so far
abbrev pub invariant-loop-x : goal.invariant-loop-x
invariant-loop-x l = HooksBesides l.initial.self (take l.x-index l.xs) l.goal l.self
