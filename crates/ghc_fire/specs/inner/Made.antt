-- The goals that a step makes, as they are held.
use Rattle.std.specs.Prelude.{ℕ, List, [], get_or}
use Rattle.ghc_term.specs.Goal.{Goal, call}
use Rattle.ghc_fire.specs.declared.made.Piece.{Piece}
use Rattle.ghc_fire.specs.declared.made.Piece.TheVariants.{Nothing, One, Two, Three, Four, More}

-- the goals in the piece, in order
abbrev pub goals_in : Piece → List Goal
goals_in (Nothing _) = []
goals_in (One _ gs) = gs.value
goals_in (Two _ gs) = gs.value
goals_in (Three _ gs) = gs.value
goals_in (Four _ gs) = gs.value
goals_in (More _ gs) = gs.value.items

-- the number that stands before the piece
abbrev pub number_in : Piece → ℕ
number_in (Nothing n) = n
number_in (One n _) = n
number_in (Two n _) = n
number_in (Three n _) = n
number_in (Four n _) = n
number_in (More n _) = n

-- the goal at the index, where there is one
abbrev pub goal_at : List Goal → ℕ → Goal
goal_at gs index = get_or gs index (call [] [])
