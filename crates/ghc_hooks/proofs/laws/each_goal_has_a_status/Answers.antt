use Rattle.ghc_hooks.proofs.EachStatus.{each_status}
use Rattle.ghc_hooks.proofs.laws.each_goal_has_a_status.Goals as goal

pub returns : goal.returns
returns c = each_status
