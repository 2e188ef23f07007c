-- What a goal's parts stand for.
use Rattle.std.specs.Prelude.{[]}
use Rattle.ghc_term.specs.declared.goal.Shape.{Shape}
use Rattle.ghc_term.specs.declared.goal.Shape.TheVariants.{Nothing, One, Two, Three, Four, Many, Unify, Assign, Stream}
use Rattle.ghc_term.specs.Goal.{Goal, call, unify, assign, stream}

-- the goal that a shape holds: a call of a name over its arguments, any other goal of its two parts
abbrev pub goal_of : Shape → Goal
goal_of (Nothing f) = call f []
goal_of (One f ts) = call f ts
goal_of (Two f ts) = call f ts
goal_of (Three f ts) = call f ts
goal_of (Four f ts) = call f ts
goal_of (Many f ts) = call f ts.value.items
goal_of (Unify t u) = unify t u
goal_of (Assign t e) = assign t e
goal_of (Stream k x) = stream k x
