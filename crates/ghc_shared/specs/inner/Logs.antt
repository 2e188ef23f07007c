-- Logs: the items of a history, each with the number of the pass that made it.
use Rattle.std.specs.Prelude.{◌≡◌, ℕ, suc, ◌==◌, ◌<◌, ◌++◌, List, [], ◌∷◌, length, map, drop, Bool, MatchBool}

module _ {E : Type 0} where
  -- the log of a history that no pass has made: its items stand under 0
  abbrev pub opening_log : List E → List (ℕ × E)
  opening_log history = map (λ item. (0, item)) history

  -- the items of a log
  abbrev pub items_of : List (ℕ × E) → List E
  items_of log = map (λ entry. entry.1) log

  -- the log, and then what the history has more, which this pass made
  abbrev pub extended : List (ℕ × E) → ℕ → List E → List (ℕ × E)
  extended log by history = log ++ map (λ item. (by, item)) (drop (length log) history)

  -- The history has one item more if a call was accepted, and else none.
  abbrev pub AddsOneIf : Bool → List E → List E → Type 0
  AddsOneIf accepted old new = MatchBool accepted ((item : E) × (new ≡ old ++ item ∷ [])) (new ≡ old)

  -- Each item was made by one of so many passes.
  abbrev pub AllBy : ℕ → List (ℕ × E) → Type 0
  AllBy passes [] = Unit {0}
  AllBy passes (entry ∷ log) = (entry.0 < passes) × AllBy passes log

  -- ArePlacesBy by k log places: the first item of the log stands at place k, and these are places of items of it that this pass made, in rising order.
  abbrev pub ArePlacesBy : ℕ → ℕ → List (ℕ × E) → List ℕ → Type 0
  ArePlacesBy by k [] places = places ≡ []
  ArePlacesBy by k (entry ∷ log) [] = Unit {0}
  ArePlacesBy by k (entry ∷ log) (p ∷ places) =
      MatchBool (p == k) ((entry.0 ≡ by) × ArePlacesBy by (suc k) log places) (ArePlacesBy by (suc k) log (p ∷ places))
