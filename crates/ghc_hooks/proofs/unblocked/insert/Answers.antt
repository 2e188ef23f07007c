use Rattle.ghc_hooks.proofs.Unblocking.{is_added}
use Rattle.ghc_hooks.proofs.unblocked.insert.Goals as goal

pub returns-in-Ok-clause-ok : goal.returns-in-Ok-clause-ok
returns-in-Ok-clause-ok c = is_added c.args.goals.now c.insert.new.self c.args.goal c.in-Ok.ensures.updates
