use Rattle.ghc_pool.specs.inner.Plans.{GoesOnWithout}
use Rattle.ghc_pool.proofs.deciding.Deciding.take_step.Given as goal

abbrev pub invariant-loop : goal.invariant-loop
invariant-loop g l = GoesOnWithout g.N.Naming.opened l.self.scope.now l.self.spies.now l.self.steps l.initial.pass l.pass
