-- The goal that is lent in parts.
use Rattle.ghc_term.specs.Goal.{Goal, call, unify, assign, stream}
use Rattle.ghc_term.specs.declared.goal_view.GoalView.{GoalView}
use Rattle.ghc_term.specs.declared.goal_view.GoalView.TheVariants.{Call, Unify, Assign, Stream}

-- the goal that a view lends: a call, a unification, an assignment or a stream
abbrev pub shown : GoalView → Goal
shown (Call f ts) = call f.now ts.now
shown (Unify t u) = unify t.now u.now
shown (Assign t e) = assign t.now e.now
shown (Stream k x) = stream k x
