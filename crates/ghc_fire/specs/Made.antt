-- What a step makes.
use Rattle.std.specs.Prelude.{ℕ, List}
use Rattle.ghc_term.specs.Goal.{Goal}

-- What a step makes is goals, in order, and so many variables.
pub record Made : Type 0 where
  pub goals : List Goal
  pub fresh : ℕ
