use Rattle.ghc_pool.proofs.Taking.{more_workers}
use Rattle.ghc_pool.proofs.runs.stretches.Team.take_alone.Goals as goal

pub returns-clause-taken : goal.returns-clause-taken
returns-clause-taken g c =
    let t = c.drain.ensures.taken in
    let team = c.args.self.now in
    (t.0, more_workers team.workers team.spies.now c.args.root c.args.core.now.world c.args.core.now.notes c.drain.new.core.world c.drain.new.core.notes t.0 t.1, t.2)
