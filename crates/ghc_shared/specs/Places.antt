-- The places of all passes together.
use Rattle.std.specs.Prelude.{◌≡◌, ℕ, zero, suc, ◌+◌, ◌-◌, List, [], ◌∷◌, length}
use Rattle.ghc_shared.specs.inner.Logs.{ArePlacesBy}
use Rattle.ghc_shared.specs.Passes.{Known}

-- what these numbers weigh together, each weighed by h
abbrev pub weight : (ℕ → ℕ) → List ℕ → ℕ
weight h [] = 0
weight h (x ∷ xs) = h x + weight h xs

-- n numbers from k on
abbrev pub numbers_from : ℕ → ℕ → List ℕ
numbers_from k zero = []
numbers_from k (suc n) = k ∷ numbers_from (suc k) n

module _ {E : Type 0} where
  -- the places of a history after its first `base` items
  abbrev pub places_since : ℕ → List E → List ℕ
  places_since base history = numbers_from base (length history - base)

  -- what the places of these passes weigh together
  abbrev pub weight_of_places : (ℕ → ℕ) → List (Known E) → ℕ
  weight_of_places h [] = 0
  weight_of_places h (p ∷ ps) = weight h p.places + weight_of_places h ps

  -- Each of these numbers is a place of one of the passes, once, and they have no other place: however numbers are weighed, both weigh the same.
  abbrev pub AreEachOnce : List (Known E) → List ℕ → Type 0
  AreEachOnce ps numbers = (h : ℕ → ℕ) → weight_of_places h ps ≡ weight h numbers

  -- The places of each pass are places of items of the log that it made; the first of these stands at place k.
  abbrev pub AreAllByTheirs : ℕ → List (ℕ × E) → List (Known E) → Type 0
  AreAllByTheirs k log [] = Unit {0}
  AreAllByTheirs k log (p ∷ ps) = ArePlacesBy p.number k log p.places × AreAllByTheirs k log ps
