-- How much is read of a history, and that it is enough.
use Rattle.std.specs.Prelude.{◌≡◌, ◌↔◌, ◌⊎◌, ◌++◌, ℕ, List, codes, take}
use Rattle.ghc_term.specs.declared.fault.Fault.{Fault}
use Rattle.ghc_records.specs.Chronicle.{Chronicle}
use Rattle.ghc_records.specs.ChronicleText.{TellsChronicle, chronicle_heading}
use Rattle.ghc_records.specs.History.{History}
use Rattle.ghc_records.specs.HistoryText.{TellsHistory, heading}
use Rattle.ghcdb.specs.Opening.{IsHistoryFault}
use Rattle.ghcdb.specs.declared.start.Started.{Started}

-- so many bytes has the first line of a history, its line feed among them
abbrev pub heading_bytes : ℕ
heading_bytes = 14

-- The bytes are the first line of a history, of either version, and the line feed that ends it.
abbrev pub IsHeadingLine : List ℕ → Type 0
IsHeadingLine bytes = (bytes ≡ heading ++ codes "\n") ⊎ (bytes ≡ chronicle_heading ++ codes "\n")

-- IsReadOf whole text: this text is read of the whole one. It is all of it where that begins with the first line of a history, else as many bytes as such a line has.
abbrev pub IsReadOf : List ℕ → List ℕ → Type 0
IsReadOf whole text = (IsHeadingLine (take heading_bytes whole) × (text ≡ whole)) ⊎ ((¬ IsHeadingLine (take heading_bytes whole)) × (text ≡ take heading_bytes whole))

-- What is read of a text tells the histories of both versions that the whole text tells, and is refused as it is.
abbrev pub WhatIsReadTells : Type 0
WhatIsReadTells =
    (whole text : List ℕ)
    → IsReadOf whole text
    → ((h : History) → TellsHistory text h ↔ TellsHistory whole h)
    × ((c : Chronicle) → TellsChronicle text c ↔ TellsChronicle whole c)
    × ((s : Started) (fault : Fault) → IsHistoryFault s text fault ↔ IsHistoryFault s whole fault)
