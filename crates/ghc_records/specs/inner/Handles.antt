-- Handles of the goals that a step makes.
use Rattle.std.specs.Prelude.{List, [], ◌∷◌}
use Rattle.ghc_term.specs.Goal.{Goal}
use Rattle.ghc_records.specs.declared.handles.Handles.{Handles}
use Rattle.ghc_records.specs.declared.handles.Handles.TheVariants.{Nothing, One, Two, More}

-- the goals, in order
abbrev pub goals_of : Handles → List Goal
goals_of Nothing = []
goals_of (One a) = a ∷ []
goals_of (Two a b) = a ∷ b ∷ []
goals_of (More gs) = gs.items
