use Rattle.std.proofs.Common.{take}
use Rattle.ghc_hooks.proofs.LookingAll.{HasBesides}
use Rattle.ghc_hooks.proofs.looks.Looks.add_all.Given as goal

abbrev pub invariant-loop-x : goal.invariant-loop-x
invariant-loop-x l = HasBesides l.initial.self (take l.x-index l.xs) l.goal l.self
