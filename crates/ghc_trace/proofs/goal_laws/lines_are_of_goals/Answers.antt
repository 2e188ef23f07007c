use Rattle.ghc_trace.proofs.GoalTelling.{lines_told}
use Rattle.ghc_trace.proofs.goal_laws.lines_are_of_goals.Goals as goal

pub returns : goal.returns
returns c = lines_told
