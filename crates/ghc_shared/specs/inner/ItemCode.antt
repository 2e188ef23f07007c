-- Two items with one code are one.
use Rattle.std.specs.Prelude.{◌≡◌, ◌⊎◌, refl}
use Rattle.std.specs.Coded.{Coded, code_by, coded⊎}
use Rattle.std.proofs.Common.{inl, inr}
use Rattle.ghc_records.specs.Journal.{Opening, Entry, Item, opened, entered}
use Rattle.ghc_records.specs.inner.RecordCode.{opening_code, entry_code}

-- the opening or the journal entry that an item holds
abbrev pub item_parts : Item → Opening ⊎ Entry
item_parts (opened o) = inl o
item_parts (entered e) = inr e

-- the item that holds this opening or this journal entry
abbrev pub item_from : Opening ⊎ Entry → Item
item_from (inl o) = opened o
item_from (inr e) = entered e

-- What an item is coded as is read back as that item.
pub item_back : (i : Item) → item_from (item_parts i) ≡ i
item_back (opened o) = refl
item_back (entered e) = refl

-- the code of an item, an opening or a journal entry, which no other item has
abbrev pub item_code : Coded Item
item_code = code_by (Opening ⊎ Entry) (coded⊎ opening_code entry_code) item_parts item_from item_back
