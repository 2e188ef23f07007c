use Rattle.ghc_trace.proofs.Words.{take, Gathers}
use Rattle.ghc_trace.proofs.Disturbing.{LooksAtOneOf}
use Rattle.ghc_trace.proofs.gathered.Gathered.add_looking.Given as goal

abbrev pub invariant-loop-x : goal.invariant-loop-x
invariant-loop-x l = Gathers l.tries.notes (LooksAtOneOf l.tries.notes (take l.x-index l.x-items)) l.initial.self.goals.items l.self.goals.items
