-- Chronicles as texts: how a chronicle is written, which texts tell one, and which line of a text is the first that is wrong.
use Rattle.std.specs.Prelude.{◌≡◌, ◌≢◌, ℕ, ◌+◌, ◌≤◌, List, [], ◌∷◌, ◌++◌, codes, drop, length, map}
use Rattle.std.specs.Fmt.{decimal}
use Rattle.ghc_term.specs.declared.fault.Fault.{Fault}
use Rattle.ghc_records.specs.declared.predicate.Predicate.{Predicate}
use Rattle.ghc_records.specs.Numbers.{number_limit, kept_limit}
use Rattle.ghc_records.specs.Journal.{Step, Entry}
use Rattle.ghc_records.specs.StepText.{step_text}
use Rattle.ghc_records.specs.History.{History}
use Rattle.ghc_records.specs.HistoryText.{IsLine, SaysStep, end_line, lines_text, pieces_of}
use Rattle.ghc_records.specs.Sections.{TellsNoMoreItems, TellsSection, IsFirstWrongOf}
use Rattle.ghc_records.specs.Chronicle.{Chronicle, AreBelow, AreInTurn, entry_limit, next_behind, spy_limit}
use Rattle.ghc_records.specs.EntryText.{SaysEntry, entry_text}
use Rattle.ghc_records.specs.Predicates.{GoTogether, SaysPredicate, predicate_text}

-- the first line of each chronicle
abbrev pub chronicle_heading : List ℕ
chronicle_heading = codes "ghc-history 2"

-- the line that tells how many steps the opening has, and the number that the next step gets after them
abbrev pub opening_line : ℕ → ℕ → List ℕ
opening_line next count = codes "opening " ++ (decimal count ++ (codes " " ++ decimal next))

-- the lines that tell how many entries and how many spies there are
abbrev pub entries_line : ℕ → List ℕ
entries_line count = codes "entries " ++ decimal count

-- the line before the spies of a chronicle, with their count
abbrev pub spies_line : ℕ → List ℕ
spies_line count = codes "spies " ++ decimal count

-- the lines of a chronicle: the heading; the opening, with its steps; the entries; the spies; and the number that the next step gets
abbrev pub chronicle_lines : Chronicle → List (List ℕ)
chronicle_lines c =
    chronicle_heading ∷ opening_line c.opening.next (length c.opening.steps) ∷ (map step_text c.opening.steps
    ++ entries_line (length c.entries) ∷ (map entry_text c.entries
    ++ spies_line (length c.spies) ∷ (map predicate_text c.spies
    ++ end_line c.next ∷ [])))

-- the text of a chronicle
abbrev pub chronicle_text : Chronicle → List ℕ
chronicle_text c = lines_text (chronicle_lines c)

-- The number is one that the next step can get.
abbrev pub IsNext : ℕ → Type 0
IsNext n = (1 ≤ n) × (n ≤ number_limit)

-- the pieces after so many lines
abbrev pub behind_lines : ℕ → List ℕ → List (List ℕ)
behind_lines n text = drop n (pieces_of text)

-- The text begins with the heading and the section of the opening.
pub record TellsOpening (text : List ℕ) (o : History) : Type 0 where
  pub begins : IsLine text 0 chronicle_heading
  pub steps : TellsSection SaysStep (AreBelow o.next) (opening_line o.next) kept_limit (behind_lines 1 text) o.steps
  pub next : IsNext o.next

-- After the opening, the text has the section of the entries.
pub record TellsEntries (text : List ℕ) (o : History) (es : List Entry) : Type 0 where
  pub opening : TellsOpening text o
  pub entries : TellsSection SaysEntry (AreInTurn o.next) entries_line entry_limit (behind_lines (length o.steps + 2) text) es

-- how many lines stand in front of the spies
abbrev pub lines_to_spies : History → List Entry → ℕ
lines_to_spies o es = length o.steps + length es + 3

-- After the entries, the text has the section of the spies.
pub record TellsSpies (text : List ℕ) (o : History) (es : List Entry) (ps : List Predicate) : Type 0 where
  pub entries : TellsEntries text o es
  pub spies : TellsSection SaysPredicate GoTogether spies_line spy_limit (behind_lines (lines_to_spies o es) text) ps

-- how many lines stand in front of the end
abbrev pub lines_to_end : History → List Entry → List Predicate → ℕ
lines_to_end o es ps = lines_to_spies o es + length ps + 1

-- After the spies comes the line that tells the number that the next step gets: the one after the last step that was taken.
abbrev pub TellsEnd : List ℕ → History → List Entry → List Predicate → Type 0
TellsEnd text o es ps = IsLine text (lines_to_end o es ps) (end_line (next_behind o.next es))

-- The text tells the chronicle, and nothing else.
pub record TellsChronicle (text : List ℕ) (c : Chronicle) : Type 0 where
  pub spies : TellsSpies text c.opening c.entries c.spies
  pub end : TellsEnd text c.opening c.entries c.spies
  pub next : c.next ≡ next_behind c.opening.next c.entries
  pub whole : behind_lines (lines_to_end c.opening c.entries c.spies + 1) text ≡ [] ∷ []

-- The first wrong line of the text has this number, from 1 on. It is the heading; the opening; one of its steps; a line of the entries' or
-- the spies' section; the end; or what follows it. A step's line is wrong where it tells none, or its number is that of a step in front or
-- not below the next one. So is an entry whose step has not the next number.
pub data IsFirstWrongInChronicle (text : List ℕ) : ℕ → Type 0 where
  no_heading : ¬ IsLine text 0 chronicle_heading → IsFirstWrongInChronicle text 1
  no_opening : IsLine text 0 chronicle_heading → ((next count : ℕ) → IsNext next → count ≤ kept_limit → ¬ IsLine text 1 (opening_line next count)) → IsFirstWrongInChronicle text 2
  no_step : {next count : ℕ} {steps : List Step} → IsLine text 0 chronicle_heading → IsNext next → count ≤ kept_limit → IsLine text 1 (opening_line next count)
      → TellsNoMoreItems SaysStep (AreBelow next) (behind_lines 2 text) count steps → IsFirstWrongInChronicle text (length steps + 3)
  no_entry : {o : History} {i : ℕ} → TellsOpening text o → IsFirstWrongOf SaysEntry (AreInTurn o.next) entries_line entry_limit (behind_lines (length o.steps + 2) text) i → IsFirstWrongInChronicle text (length o.steps + 3 + i)
  no_spy : {o : History} {es : List Entry} {i : ℕ} → TellsEntries text o es → IsFirstWrongOf SaysPredicate GoTogether spies_line spy_limit (behind_lines (lines_to_spies o es) text) i → IsFirstWrongInChronicle text (lines_to_spies o es + 1 + i)
  no_end : {o : History} {es : List Entry} {ps : List Predicate} → TellsSpies text o es ps → ¬ TellsEnd text o es ps → IsFirstWrongInChronicle text (lines_to_end o es ps + 1)
  more : {o : History} {es : List Entry} {ps : List Predicate} → TellsSpies text o es ps → TellsEnd text o es ps → behind_lines (lines_to_end o es ps + 1) text ≢ [] ∷ []
      → IsFirstWrongInChronicle text (lines_to_end o es ps + 2)

-- A text that tells no chronicle is refused with its first wrong line.
abbrev pub IsChronicleRefusal : List ℕ → Fault → Type 0
IsChronicleRefusal text fault = (line : ℕ) × (fault ≡ Fault.History line) × IsFirstWrongInChronicle text line
