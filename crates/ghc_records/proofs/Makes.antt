-- The names that a step gives to the goals that it makes, one after another.
use Rattle.ghc_records.proofs.Words.{◌≡◌, ℕ, ◌+◌, ◌<◌, List, [], ◌∷◌, length, drop, refl, arith, at_drop_more, Goal, names_given}

-- the name of the goal at this place, and those after it
pub named_next : (n i : ℕ) (gs : List Goal) → i < length gs
    → names_given n (i + 1) (drop i gs) ≡ record { step = n; place = i + 1 } ∷ names_given n (i + 1 + 1) (drop (i + 1) gs)
named_next n i [] h = absurd (omega (arith, h))
named_next n i (g ∷ gs) h = at_drop_more (names_given n (i + 1)) (g ∷ gs) i g h

-- a goal for each name
pub as_many_named : (n i : ℕ) (gs : List Goal) → (length gs ≡ 0 → ⊥) → length (names_given n i gs) ≡ 0 → ⊥
as_many_named n i [] some none = some refl
as_many_named n i (g ∷ gs) some none = omega (arith, none)
