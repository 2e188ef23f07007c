-- Two codes of what a step makes are one only where the same is made.
use Rattle.std.specs.Prelude.{ℕ, List, refl}
use Rattle.std.specs.Coded.{Coded, code_by, coded×, coded_list, coded_ℕ}
use Rattle.ghc_term.specs.Goal.{Goal}
use Rattle.ghc_term.specs.inner.GoalCode.{goal_code}
use Rattle.ghc_fire.specs.Made.{Made}

-- the code of what a step makes, which nothing else that it makes has
abbrev pub made_code : Coded Made
made_code = code_by (List Goal × ℕ) (coded× (coded_list goal_code) coded_ℕ) (λ m. (m.goals, m.fresh)) (λ p. record { goals = p.0; fresh = p.1 }) (λ _. refl)
