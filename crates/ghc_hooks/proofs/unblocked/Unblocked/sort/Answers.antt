use Rattle.ghc_hooks.proofs.Words.{ap, arith}
use Rattle.std.specs.FinSet as set
use Rattle.ghc_hooks.proofs.Looking.{one_less}
use Rattle.ghc_hooks.proofs.unblocked.Unblocked.sort.Goals as goal

pub loop-goal-smaller : goal.loop-goal-smaller
loop-goal-smaller c = omega (arith, one_less c.loop-goal.self.unsorted.held c.in-Some.goal c.in-Some.ensures.some, ap set.len c.in_ok-sort_one.ensures.less)
