use Rattle.std.proofs.Common.{refl}
use Rattle.ghc_pool.proofs.Telling.{decided_starved}
use Rattle.ghc_pool.proofs.deciding.Deciding.starve.Goals as goal

pub returns : goal.returns
returns g c = decided_starved g.N.Naming.opened c.args.self.now.scope.now c.args.self.now.spies.now c.args.self.now.steps c.args.goal c.args.pass.now _ _ _ c.requires.steps c.requires.starved (refl, refl) c.new.ensures.items
