-- The order of goal names.
pub use Rattle.ghc_term.proofs.GoalNames.{goal_total, goal_antisymmetric, same_parts, same_goal, same, same_is}
