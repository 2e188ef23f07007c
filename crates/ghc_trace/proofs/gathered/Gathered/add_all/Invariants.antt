use Rattle.ghc_trace.proofs.Words.{take, In, Gathers}
use Rattle.ghc_trace.proofs.gathered.Gathered.add_all.Given as goal

abbrev pub invariant-loop-goal : goal.invariant-loop-goal
invariant-loop-goal l = Gathers l.tries.notes (λ g. In g (take l.goal-index l.goals)) l.initial.self.goals.items l.self.goals.items
