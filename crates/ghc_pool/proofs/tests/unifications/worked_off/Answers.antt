use Rattle.ghc_pool.proofs.Telling.{told_all}
use Rattle.ghc_pool.proofs.tests.unifications.worked_off.Goals as goal

pub close-core-requires-clause-all : goal.close-core-requires-clause-all
close-core-requires-clause-all g c = told_all g.N.Naming.opened _ _ _ g.N.Naming.passes 0 c.in-Ok.passes.items c.in-Ok-round.report.workers.items c.in-Ok-round.passes.items c.in-Ok-round.ensures.told c.in-Ok.ensures.all
