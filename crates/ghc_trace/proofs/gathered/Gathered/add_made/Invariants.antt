use Rattle.ghc_trace.proofs.Words.{◌≡◌, ◌≤◌, Gathers}
use Rattle.ghc_trace.proofs.gathered.Gathered.add_made.Given as goal

abbrev pub invariant-loop-index : goal.invariant-loop-index
invariant-loop-index l = Gathers l.tries.notes (λ g. (g.step ≡ l.number) × (1 ≤ g.place) × (g.place ≤ l.index)) l.initial.self.goals.items l.self.goals.items
