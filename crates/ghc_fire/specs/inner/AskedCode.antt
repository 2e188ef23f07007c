-- Two lists of goals that are asked for with one code are one.
use Rattle.std.specs.Prelude.{List}
use Rattle.std.specs.Coded.{Coded, coded_list}
use Rattle.ghc_term.specs.Goal.{Goal}
use Rattle.ghc_term.specs.inner.GoalCode.{goal_code}

-- the code of the goals that an act asks for, in order, which no other list of goals has
abbrev pub asked_code : Coded (List Goal)
asked_code = coded_list goal_code
