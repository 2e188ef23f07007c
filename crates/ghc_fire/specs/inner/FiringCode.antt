-- Two firings with one code are one.
use Rattle.std.specs.Prelude.{ℕ, Option, refl}
use Rattle.std.specs.Coded.{Coded, code_by, coded×, coded_option, coded_ℕ}
use Rattle.ghc_term.specs.declared.goal_name.GoalName.{GoalName}
use Rattle.ghc_term.specs.Goal.{Goal}
use Rattle.ghc_term.specs.inner.GoalCode.{goal_code}
use Rattle.ghc_fire.specs.declared.act.Act.{Act}
use Rattle.ghc_fire.specs.Effect.{Effect}
use Rattle.ghc_fire.specs.Firing.{Firing}
use Rattle.ghc_fire.specs.inner.ActCode.{act_code}
use Rattle.ghc_fire.specs.inner.EffectCode.{effect_code}
use Rattle.ghc_fire.specs.inner.GoalsCode.{goal_name_code}

-- the code of a step that fires, which no other such step has
abbrev pub firing_code : Coded Firing
firing_code =
    code_by (ℕ × (Option GoalName × (Option Goal × (Act × Effect))))
    (coded× coded_ℕ (coded× (coded_option goal_name_code) (coded× (coded_option goal_code) (coded× act_code effect_code))))
    (λ f. (f.number, (f.goal, (f.consumed, (f.act, f.effect)))))
    (λ p. record { number = p.0; goal = p.1.0; consumed = p.1.1.0; act = p.1.1.1.0; effect = p.1.1.1.1 })
    (λ _. refl)
