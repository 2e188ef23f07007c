-- The pairs of places that are still ahead.
use Rattle.std.specs.Prelude.{◌≡◌, List, [], ◌∷◌, ◌++◌, take, Option, Some, None}
use Rattle.std.specs.Borrow.{Bor}
use Rattle.std.specs.List.{zip}
use Rattle.ghc_term.specs.Tree.{Tree}
use Rattle.ghc_match.specs.declared.places.Places.{Places}

-- the pairs ahead among some places
abbrev pub ahead_in : Places → List (Tree × Tree)
ahead_in p = zip (take p.left p.heads.now) (take p.left p.terms.now)

-- the pairs ahead among several
abbrev pub ahead_of : List Places → List (Tree × Tree)
ahead_of [] = []
ahead_of (p ∷ ps) = ahead_in p ++ ahead_of ps

-- all pairs ahead: those here come last
abbrev pub all_ahead : Places → List Places → List (Tree × Tree)
all_ahead here pending = ahead_of pending ++ ahead_in here

-- The last pair is taken, or there is none.
abbrev pub TakesLast : Option (Bor Tree × Bor Tree) → List (Tree × Tree) → List (Tree × Tree) → Type 0
TakesLast None old new = old ≡ []
TakesLast (Some q) old new = old ≡ new ++ (q.0.now, q.1.now) ∷ []
