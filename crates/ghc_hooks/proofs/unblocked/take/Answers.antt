use Rattle.ghc_hooks.proofs.Unblocking.{is_taken}
use Rattle.ghc_hooks.proofs.unblocked.take.Goals as goal

pub returns : goal.returns
returns c = is_taken c.args.goals.now c.remove.new.self c.args.goal c.remove.ensures.updates
