-- The numbers of steps.
use Rattle.std.specs.Prelude.{ℕ, ◌<◌, ◌≤◌}

-- The numbers of steps are below this one.
abbrev pub number_limit : ℕ
number_limit = 4294967295

-- At most this many steps are kept.
abbrev pub kept_limit : ℕ
kept_limit = 1000000

-- A step can have this number.
abbrev pub IsStepNumber : ℕ → Type 0
IsStepNumber n = (1 ≤ n) × (n < number_limit)
