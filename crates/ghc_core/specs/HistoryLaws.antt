-- Laws of journals and legal histories: what they determine.
use Rattle.std.specs.Prelude.{◌≡◌, List}
use Rattle.ghc_records.specs.Record.{Record, Shelf}
use Rattle.ghc_records.specs.Journal.{Item, history}
use Rattle.ghc_depend.specs.Kept.{Keeps}
use Rattle.ghc_core.specs.World.{Hands, World}
use Rattle.ghc_core.specs.Legal.{Leaves, IsReachable}

-- Reachable worlds of one opening and one journal are one world.
abbrev pub ReachableIsOne : Type 0
ReachableIsOne =
    (w v : World) (hands others : Hands) → IsReachable w hands → IsReachable v others → w.opening ≡ v.opening → w.journal ≡ v.journal → w ≡ v

-- A legal history leaves one world.
abbrev pub LeavesIsOne : Type 0
LeavesIsOne = (items : List Item) (w v : World) → Leaves items w → Leaves items v → w ≡ v

-- A reachable world is left by the history of its opening and its journal.
abbrev pub ReachableIsLegal : Type 0
ReachableIsLegal = (w : World) (hands : Hands) → IsReachable w hands → Leaves (history w.opening w.journal) w

-- What a legal history leaves is reachable, and the history is that of its opening and its journal.
abbrev pub LegalIsReachable : Type 0
LegalIsReachable = (items : List Item) (w : World) → Leaves items w → (items ≡ history w.opening w.journal) × ((hands : Hands) × IsReachable w hands)

-- What the journal of a reachable world tells is what the world keeps and has on its shelf, and nothing else.
abbrev pub JournalTellsWhatIsKept : Type 0
JournalTellsWhatIsKept =
    (w : World) (hands : Hands) (kept : List Record) (shelf : Shelf) → IsReachable w hands → Keeps w.opening w.journal kept shelf
    → (kept ≡ w.kept) × (shelf ≡ w.shelf)
