use Rattle.ghc_console.proofs.KeptAlone.{keep_leaves_goal}
use Rattle.ghc_console.proofs.replies.keep_laws.keep_leaves_the_goal.Goals as goal

pub returns : goal.returns
returns c = keep_leaves_goal
