-- Proposals, and the effect under a number.
use Rattle.std.specs.Prelude.{ℕ, map, if◌then◌else◌, ◌==◌}
use Rattle.ghc_term.specs.declared.var_name.VarName.{VarName}
use Rattle.ghc_term.specs.declared.goal_name.GoalName.{GoalName}
use Rattle.ghc_term.specs.Tree.{Tree, variable}
use Rattle.ghc_term.specs.Goal.{Goal}
use Rattle.ghc_fire.specs.declared.act.Act.{Act}
use Rattle.ghc_fire.specs.Instance.{made, replace_in_goal}
use Rattle.ghc_fire.specs.Effect.{Effect, no_step}

-- A proposal is a goal, by name and as written, the act on it, and the effect, under any number or as the step of some number.
pub record Proposal : Type 0 where
  pub goal : GoalName
  pub consumed : Goal
  pub act : Act
  pub effect : Effect

-- What the variable x becomes under the number n: the i-th variable that a step of any number makes becomes `_n_i`.
abbrev pub numbered : ℕ → VarName → Tree
numbered n x = if x.step == no_step then variable (made n x.place) else variable x

-- The effect under any number, as step n has it: what it makes has the variables of step n.
abbrev pub under : ℕ → Effect → Effect
under n e = record { reads = e.reads; binds = e.binds; makes = map (replace_in_goal (numbered n)) e.makes; fresh = e.fresh }
