-- Sections of a text: a line that tells how many items there are, and a line for each of these.
use Rattle.std.specs.Prelude.{◌≡◌, ℕ, ◌+◌, ◌<◌, ◌≤◌, List, [], ◌∷◌, ◌++◌, drop, length, Some, slice_get}
use Rattle.ghc_records.specs.HistoryText.{IsLineOf}

module _ {A : Type 0} (Says : List ℕ → A → Type 0) (Fit : List A → Type 0) where
  -- The first of these pieces are lines that say the items, and the items go together.
  pub record TellsItems (pieces : List (List ℕ)) (items : List A) : Type 0 where
    pub each : (i : ℕ) (a : A) → slice_get items i ≡ Some a → (line : List ℕ) × IsLineOf pieces i line × Says line a
    pub fit : Fit items

  -- The pieces tell these items, fewer than count, and no further one: the line after theirs is wrong.
  abbrev pub TellsNoMoreItems : List (List ℕ) → ℕ → List A → Type 0
  TellsNoMoreItems pieces count items = TellsItems pieces items × (length items < count) × ((a : A) → ¬ TellsItems pieces (items ++ a ∷ []))

  module _ (count_line : ℕ → List ℕ) (limit : ℕ) where
    -- The first of these pieces tells how many items there are, not too many, and those after it tell the items.
    pub record TellsSection (pieces : List (List ℕ)) (items : List A) : Type 0 where
      pub count : IsLineOf pieces 0 (count_line (length items))
      pub few : length items ≤ limit
      pub told : TellsItems (drop 1 pieces) items

    -- The first wrong one of these pieces has this place, from 0 on. It should tell how many items there are, or an item that goes with
    -- those in front, and does not.
    pub data IsFirstWrongOf (pieces : List (List ℕ)) : ℕ → Type 0 where
      no_count : ((count : ℕ) → count ≤ limit → ¬ IsLineOf pieces 0 (count_line count)) → IsFirstWrongOf pieces 0
      no_item : {count : ℕ} {items : List A} → IsLineOf pieces 0 (count_line count) → count ≤ limit → TellsNoMoreItems (drop 1 pieces) count items → IsFirstWrongOf pieces (length items + 1)
