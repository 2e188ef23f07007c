-- The replies that are listings, which are written line by line: the records, the shelf, the kept steps, and the whole session.
use Rattle.std.specs.Prelude.{ℕ, List, [], ◌∷◌, codes, map}
use Rattle.std.specs.FinMap as finite
use Rattle.ghc_records.specs.Record.{Record, Shelf}
use Rattle.ghc_records.specs.Journal.{step_of}
use Rattle.ghc_records.specs.StepText.{record_text, step_text}
use Rattle.ghc_records.specs.HistoryText.{history_lines, history_text}
use Rattle.ghc_records.specs.ChronicleText.{chronicle_lines, chronicle_text}
use Rattle.ghc_core.specs.World.{World}
use Rattle.ghc_core.specs.Load.{history_of}
use Rattle.ghc_core.specs.Resume.{chronicle_of_world}
use Rattle.ghc_trace.specs.Spies.{Spies, spies_in_order}
use Rattle.ghc_console.specs.TextLines.{lined, lines_or_none, record_lines}
use Rattle.ghc_console.specs.RunReplies.{AreLinesTold}

-- what is listed of texts: a line for each, and `none` where there is none
abbrev pub listed_or_none : List (List ℕ) → List (List ℕ)
listed_or_none [] = codes "none" ∷ []
listed_or_none (t ∷ ts) = t ∷ ts

-- what is listed of records: a line for each, and `none` where there is none
abbrev pub records_listed : List Record → List (List ℕ)
records_listed rs = listed_or_none (map record_text rs)

-- the text of all records, and `none` where there is none
abbrev pub records_text : List Record → List ℕ
records_text [] = lined (codes "none")
records_text (r ∷ rs) = record_lines (r ∷ rs)

-- the texts of the steps of records
abbrev pub steps_told : List (ℕ × Record) → List (List ℕ)
steps_told rs = map (λ e. step_text (step_of e.1)) rs

-- what is listed of the shelf: its steps, a line each by number, and `none` where there is none
abbrev pub shelf_listed : Shelf → List (List ℕ)
shelf_listed held = listed_or_none (steps_told (finite.entries held))

-- the text of the shelf
abbrev pub shelf_text : Shelf → List ℕ
shelf_text held = lines_or_none (steps_told (finite.entries held))

-- what is listed of the kept steps: their history
abbrev pub kept_listed : World → List (List ℕ)
kept_listed w = history_lines (history_of w)

-- the text of the kept steps
abbrev pub kept_text : World → List ℕ
kept_text w = history_text (history_of w)

-- what is listed of the whole session: what it began with, the entries of the journal after that, the spies in order, and the next number
abbrev pub session_listed : World → Spies → List (List ℕ)
session_listed w spies = chronicle_lines (chronicle_of_world w (spies_in_order spies))

-- the text of the whole session
abbrev pub saved_text : World → Spies → List ℕ
saved_text w spies = chronicle_text (chronicle_of_world w (spies_in_order spies))

-- TellsListing listed text: the text tells what is listed, line by line: each line by itself, or by the refusal in its place, where memory was refused for it.
abbrev pub TellsListing : List (List ℕ) → List ℕ → Type 0
TellsListing listed text = AreLinesTold (map lined listed) text
