-- Steps as they fire.
use Rattle.std.specs.Prelude.{◌≡◌, ℕ, Option, Some}
use Rattle.ghc_term.specs.declared.goal_name.GoalName.{GoalName}
use Rattle.ghc_term.specs.Goal.{Goal}
use Rattle.ghc_fire.specs.declared.act.Act.{Act}
use Rattle.ghc_fire.specs.Effect.{Effect}
use Rattle.ghc_fire.specs.Proposal.{Proposal}

-- A step that fires: its number, the goal that it consumes, if any, by name and as written, its act, and its effect.
pub record Firing : Type 0 where
  pub number : ℕ
  pub goal : Option GoalName
  pub consumed : Option Goal
  pub act : Act
  pub effect : Effect

-- the proposal, fired as step n
abbrev pub fired_as : ℕ → Proposal → Firing
fired_as n p = record { number = n; goal = Some p.goal; consumed = Some p.consumed; act = p.act; effect = p.effect }

-- The step fired is step n, and consumes the goal b named g.
abbrev pub IsReductionOf : ℕ → GoalName → Goal → Firing → Type 0
IsReductionOf n g b f = f ≡ fired_as n (record { goal = g; consumed = b; act = f.act; effect = f.effect })
