use Rattle.ghc_trace.proofs.GoalTelling.{goals_told}
use Rattle.ghc_trace.proofs.goal_laws.notes_tell_goals.Goals as goal

pub returns : goal.returns
returns c = goals_told
