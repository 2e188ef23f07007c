-- The rule of the table: what its seats know of one history.
use Rattle.std.specs.Prelude.{◌≡◌, ℕ, List, [], ◌∷◌, length, true, false}
use mathlib.Core.Option.{Option, some, none}
use mathlib.Core.List.{IsPrefix}
use lib.ListN.{get_elem?}
use Rattle.std.specs.declared.snapshot.Snapshot.{Snapshot}
use Rattle.atomic_table.specs.Table.{State, Me, Step}
use Rattle.ghc_shared.specs.declared.knowledge.Knowledge.{Knowledge}
use Rattle.ghc_shared.specs.inner.Logs.{extended}

module _ {E : Type 0} where
  -- what the keeper knows: the whole log
  abbrev pub keeper : List (ℕ × E) → Knowledge E
  keeper log = record { keeps = true; seen = log; compared = [] }

  -- what a pass knows: how the log began
  abbrev pub front : List (ℕ × E) → Knowledge E
  front seen = record { keeps = false; seen = seen; compared = [] }

  -- what the first knows, with what the second has seen beside it
  abbrev pub beside : Knowledge E → Knowledge E → Knowledge E
  beside v w = record { keeps = v.keeps; seen = v.seen; compared = w.seen }

  -- Fits seat log by v: the seat numbered `by` may know v, where `seat` is the keeper's and the log is this. Only the keeper knows all of it, and what was seen begins it.
  abbrev pub Fits : ℕ → List (ℕ × E) → ℕ → Knowledge E → Type 0
  Fits seat log by v = (v.keeps ≡ true → (by ≡ seat) × (v.seen ≡ log)) × IsPrefix v.seen log × IsPrefix v.compared log

  -- There is one log: its length is the table's word, and what each seat knows fits it.
  abbrev pub IsOneLog : {S : Type 0} → State S (Knowledge E) → Type 0
  IsOneLog s =
      (seat : ℕ) × (log : List (ℕ × E)) × (s.words ≡ length log ∷ [])
      × ((by : ℕ) (v : Knowledge E) → get_elem? s.views by ≡ some v → Fits seat log by v)

  module _ {C : Type 0} (history : C → List E) where
    -- the log after what is announced: that a pass has made what the value's history has more
    abbrev pub after : List (ℕ × E) → Option (ℕ × Snapshot C) → List (ℕ × E)
    after log none = log
    after log (some said) = extended log said.0 (history said.1.value)

    -- The keeper knows the log after what is announced, and what stood beside it began the log before.
    abbrev pub CatchesUp : Step (ℕ × Snapshot C) → Me (ℕ × Snapshot C) (Knowledge E) → ℕ → Me (ℕ × Snapshot C) (Knowledge E) → Type 0
    CatchesUp st me found me' = IsPrefix me.0.compared me.0.seen × (me' ≡ (keeper (after me.0.seen st.said), me.1))
