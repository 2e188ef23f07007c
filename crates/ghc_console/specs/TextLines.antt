-- Lines of text: those of refusals, of lists, of numbers and of records.
use Rattle.std.specs.Prelude.{ℕ, List, [], ◌∷◌, ◌++◌, codes, map}
use Rattle.std.specs.Fmt.{decimal}
use Rattle.ghc_term.specs.declared.fault.Fault.{Fault}
use Rattle.ghc_term.specs.Fault.{fault_text}
use Rattle.ghc_records.specs.Record.{Record}
use Rattle.ghc_records.specs.StepText.{listed, record_text}

-- the text as a line
abbrev pub lined : List ℕ → List ℕ
lined text = text ++ codes "\n"

-- the line of a refusal
abbrev pub refusal : Fault → List ℕ
refusal f = lined (fault_text f)

-- the numbers with a comma between them, and `-` where there is none
abbrev pub numbers_text : List ℕ → List ℕ
numbers_text numbers = listed (codes ",") (map decimal numbers)

-- the line of the steps that were undone, as `undone 3,4`
abbrev pub undone_text : List ℕ → List ℕ
undone_text numbers = lined (codes "undone " ++ numbers_text numbers)

-- texts, a line each
abbrev pub text_lines : List (List ℕ) → List ℕ
text_lines [] = []
text_lines (t ∷ ts) = t ++ (codes "\n" ++ text_lines ts)

-- texts, a line each, and `none` where there is none
abbrev pub lines_or_none : List (List ℕ) → List ℕ
lines_or_none [] = lined (codes "none")
lines_or_none (t ∷ ts) = text_lines (t ∷ ts)

-- the text, and `none` where it is empty
abbrev pub text_or_none : List ℕ → List ℕ
text_or_none [] = lined (codes "none")
text_or_none (b ∷ bs) = b ∷ bs

-- the records, a line each
abbrev pub record_lines : List Record → List ℕ
record_lines [] = []
record_lines (r ∷ rs) = lined (record_text r) ++ record_lines rs
