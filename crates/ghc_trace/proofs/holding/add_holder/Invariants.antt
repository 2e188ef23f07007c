use Rattle.ghc_trace.proofs.Words.{take}
use Rattle.ghc_trace.specs.Holding.{HasGained}
use Rattle.ghc_trace.proofs.Held.{IsHeldAmong}
use Rattle.ghc_trace.proofs.holding.add_holder.Given as goal

abbrev pub invariant-loop-y : goal.invariant-loop-y
invariant-loop-y l = HasGained l.initial.holders.keys l.holders.keys (IsHeldAmong l.unbound (take l.y-index l.y-items) l.goal)
