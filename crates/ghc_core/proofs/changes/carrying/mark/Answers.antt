use Rattle.ghc_core.proofs.Carried.{one_marked}
use Rattle.ghc_core.proofs.changes.carrying.mark.Goals as goal

pub returns-then-not-is_stream-clause-marked : goal.returns-then-not-is_stream-clause-marked
returns-then-not-is_stream-clause-marked c =
    one_marked c.args.tries.now c.add_goal.new.self c.args.name c.args.goal.now (cc) c.add_goal.ensures.notes c.add_goal.ensures.untried
