-- Lemmas on texts that tell chronicles, and on the first line of a text that is wrong.
use Rattle.ghc_records.proofs.Words.{◌≡◌, ◌≢◌, ℕ, ◌+◌, ◌≤◌, List, [], ◌∷◌, drop, get_or, length, decimal, sym, ap, ◌∙◌, subst, arith, codes, append_cancel_left, drop-drop, nil_from_length, Fault, Predicate, kept_limit, Step, Entry, History, IsLine, IsLineOf, SaysStep, end_line, greatest_number, pieces_of, IsFirstWrongOf, TellsItems, TellsNoMoreItems, TellsSection, AreBelow, AreInTurn, entry_limit, next_behind, spy_limit, SaysEntry, GoTogether, SaysPredicate, IsChronicleRefusal, IsFirstWrongInChronicle, IsNext, TellsChronicle, TellsEnd, TellsEntries, TellsOpening, TellsSpies, behind_lines, chronicle_heading, entries_line, lines_to_end, lines_to_spies, no_end, no_entry, no_opening, no_spy, no_step, opening_line, spies_line}
use Rattle.ghc_records.specs.ChronicleText.{more}
use Rattle.ghc_records.proofs.CutLemmas.{behind_both, line_stands, one_number, one_text}
use Rattle.ghc_records.proofs.SectionParts.{first_stands, section_rest, section_told}

-- lines counted from a place on
line_from : (pieces : List (List ℕ)) (n : ℕ) (rest line : List ℕ) → drop n pieces ≡ pieces_of rest → IsLineOf pieces n line → IsLineOf (pieces_of rest) 0 line
line_from pieces n rest line at stands = (stands.0, stands.1, sym at ∙ stands.2)

-- ---- heading and opening

pub begins : (text counted : List ℕ) → pieces_of text ≡ chronicle_heading ∷ pieces_of counted → IsLine text 0 chronicle_heading
begins text counted first = first_stands (pieces_of text) chronicle_heading counted first

pub wrong_opening : (text counted : List ℕ) → pieces_of text ≡ chronicle_heading ∷ pieces_of counted
    → ((next count : ℕ) → IsNext next → count ≤ kept_limit → ¬ IsLineOf (pieces_of counted) 0 (opening_line next count)) → IsFirstWrongInChronicle text 2
wrong_opening text counted first none =
    no_opening (begins text counted first) (λ next count fits few stands. none next count fits few (line_from (pieces_of text) 1 counted (opening_line next count) (ap (drop 1) first) stands))

module _ (text counted told : List ℕ) (count next : ℕ) (first : pieces_of text ≡ chronicle_heading ∷ pieces_of counted) (second : pieces_of counted ≡ opening_line next count ∷ pieces_of told) (fits : IsNext next) (few : count ≤ kept_limit) where
  one : pieces_of counted ≡ behind_lines 1 text
  one = sym (ap (drop 1) first)

  two : pieces_of told ≡ behind_lines 2 text
  two = sym (ap (drop 2) first ∙ ap (drop 1) second)

  pub opening_told : (steps : List Step) → TellsItems SaysStep (AreBelow next) (pieces_of told) steps → length steps ≡ count → TellsOpening text (record { steps = steps; next = next })
  opening_told steps says all = record {
    begins = begins text counted first;
    steps = subst (λ p. TellsSection SaysStep (AreBelow next) (opening_line next) kept_limit p steps) one
        (section_told SaysStep (AreBelow next) (opening_line next) kept_limit (pieces_of counted) count told second few steps says all);
    next = fits;
  }

  pub opening_rest : (steps : List Step) (rest : List ℕ) → length steps ≡ count → drop count (pieces_of told) ≡ pieces_of rest → behind_lines (length steps + 2) text ≡ pieces_of rest
  opening_rest steps rest all e =
      behind_both (pieces_of text) 1 (length steps + 1) (length steps + 2) (omega arith) ∙ ap (drop (length steps + 1)) (sym one)
      ∙ section_rest SaysStep (AreBelow next) (opening_line next) kept_limit (pieces_of counted) count told second few steps rest all e

  pub wrong_step : (fault : Fault) (steps : List Step) → fault ≡ Fault.History (length steps + 3) → TellsNoMoreItems SaysStep (AreBelow next) (pieces_of told) count steps → IsChronicleRefusal text fault
  wrong_step fault steps is none = (
    length steps + 3,
    is,
    no_step {next = next} {count = count} {steps = steps} (begins text counted first) fits few (subst (λ p. IsLineOf p 0 (opening_line next count)) one (first_stands (pieces_of counted) (opening_line next count) told second))
        (subst (λ p. TellsNoMoreItems SaysStep (AreBelow next) p count steps) two none),
  )

-- ---- entries

module _ (text counted : List ℕ) (o : History) (opens : TellsOpening text o) (behind : behind_lines (length o.steps + 2) text ≡ pieces_of counted) where
  pub wrong_entry : (fault : Fault) (line i : ℕ) → line ≡ length o.steps + 3 → fault ≡ Fault.History (line + i) → IsFirstWrongOf SaysEntry (AreInTurn o.next) entries_line entry_limit (pieces_of counted) i → IsChronicleRefusal text fault
  wrong_entry fault line i number is wrong = (
    length o.steps + 3 + i,
    is ∙ ap (λ n. Fault.History (n + i)) number,
    no_entry {o = o} {i = i} opens (subst (λ p. IsFirstWrongOf SaysEntry (AreInTurn o.next) entries_line entry_limit p i) (sym behind) wrong),
  )

  entries_told : (es : List Entry) → TellsSection SaysEntry (AreInTurn o.next) entries_line entry_limit (pieces_of counted) es → TellsEntries text o es
  entries_told es told = record { opening = opens; entries = subst (λ p. TellsSection SaysEntry (AreInTurn o.next) entries_line entry_limit p es) (sym behind) told }

  entries_rest : (es : List Entry) (rest : List ℕ) → drop (length es + 1) (pieces_of counted) ≡ pieces_of rest → behind_lines (lines_to_spies o es) text ≡ pieces_of rest
  entries_rest es rest e =
      behind_both (pieces_of text) (length o.steps + 2) (length es + 1) (lines_to_spies o es) (omega arith) ∙ ap (drop (length es + 1)) behind ∙ e

-- ---- spies

module _ (text told : List ℕ) (o : History) (es : List Entry) (tells : TellsEntries text o es) (behind : behind_lines (lines_to_spies o es) text ≡ pieces_of told) where
  pub wrong_spy : (fault : Fault) (line i : ℕ) → line ≡ lines_to_spies o es + 1 → fault ≡ Fault.History (line + i) → IsFirstWrongOf SaysPredicate GoTogether spies_line spy_limit (pieces_of told) i → IsChronicleRefusal text fault
  wrong_spy fault line i number is wrong = (
    lines_to_spies o es + 1 + i,
    is ∙ ap (λ n. Fault.History (n + i)) number,
    no_spy {o = o} {es = es} {i = i} tells (subst (λ p. IsFirstWrongOf SaysPredicate GoTogether spies_line spy_limit p i) (sym behind) wrong),
  )

  spies_told : (ps : List Predicate) → TellsSection SaysPredicate GoTogether spies_line spy_limit (pieces_of told) ps → TellsSpies text o es ps
  spies_told ps says = record { entries = tells; spies = subst (λ p. TellsSection SaysPredicate GoTogether spies_line spy_limit p ps) (sym behind) says }

  spies_rest : (ps : List Predicate) (rest : List ℕ) → drop (length ps + 1) (pieces_of told) ≡ pieces_of rest → behind_lines (lines_to_end o es ps) text ≡ pieces_of rest
  spies_rest ps rest e =
      behind_both (pieces_of text) (lines_to_spies o es) (length ps + 1) (lines_to_end o es ps) (omega arith) ∙ ap (drop (length ps + 1)) behind ∙ e

-- ---- what was read so far

-- The text tells opening and entries, n is the number of the next step after them, and the rest begins with the spies.
pub record IsReadToSpies (text rest : List ℕ) (o : History) (es : List Entry) (n : ℕ) : Type 0 where
  pub tells : TellsEntries text o es
  pub behind : behind_lines (lines_to_spies o es) text ≡ pieces_of rest
  pub turn : n ≡ next_behind o.next es

-- .. and the spies too, and the rest begins with the end
pub record IsReadToEnd (text rest : List ℕ) (o : History) (es : List Entry) (ps : List Predicate) : Type 0 where
  pub tells : TellsSpies text o es ps
  pub behind : behind_lines (lines_to_end o es ps) text ≡ pieces_of rest

pub read_to_spies : {text : List ℕ} (counted told : List ℕ) {o : History} {first : ℕ} (es : List Entry) {n : ℕ} → TellsOpening text o → behind_lines (length o.steps + 2) text ≡ pieces_of counted → first ≡ o.next
    → TellsSection SaysEntry (AreInTurn first) entries_line entry_limit (pieces_of counted) es → n ≡ next_behind first es → drop (length es + 1) (pieces_of counted) ≡ pieces_of told → IsReadToSpies text told o es n
read_to_spies {text} counted told {o} es opens behind is says number rest = record {
  tells = entries_told text counted o opens behind es (subst (λ m. TellsSection SaysEntry (AreInTurn m) entries_line entry_limit (pieces_of counted) es) is says);
  behind = entries_rest text counted o opens behind es told rest;
  turn = number ∙ ap (λ m. next_behind m es) is;
}

pub read_to_end : {text told : List ℕ} (ending : List ℕ) {o : History} {es : List Entry} {n : ℕ} (ps : List Predicate) → IsReadToSpies text told o es n
    → TellsSection SaysPredicate GoTogether spies_line spy_limit (pieces_of told) ps → drop (length ps + 1) (pieces_of told) ≡ pieces_of ending → IsReadToEnd text ending o es ps
read_to_end {text} {told} ending {o} {es} ps read says rest = record {
  tells = spies_told text told o es read.tells read.behind ps says;
  behind = spies_rest text told o es read.tells read.behind ps ending rest;
}

-- ---- the end

module _ {text told ending : List ℕ} {o : History} {es : List Entry} {ps : List Predicate} {n : ℕ}
    (entries : IsReadToSpies text told o es n) (spies : IsReadToEnd text ending o es ps) where
  pub wrong_end : ¬ IsLineOf (pieces_of ending) 0 (end_line n) → IsFirstWrongInChronicle text (lines_to_end o es ps + 1)
  wrong_end none =
      no_end {o = o} {es = es} {ps = ps} spies.tells
      (λ stands. none (line_from (pieces_of text) (lines_to_end o es ps) ending (end_line n) spies.behind (subst (λ m. IsLine text (lines_to_end o es ps) (end_line m)) (sym entries.turn) stands)))

  module _ (rest : List ℕ) (last : pieces_of ending ≡ end_line n ∷ pieces_of rest) where
    ends : TellsEnd text o es ps
    ends = subst (λ m. IsLine text (lines_to_end o es ps) (end_line m)) entries.turn (line_stands (pieces_of text) (lines_to_end o es ps) ending (end_line n) rest spies.behind last)

    behind_all : behind_lines (lines_to_end o es ps + 1) text ≡ pieces_of rest
    behind_all = sym (drop-drop 1 (lines_to_end o es ps) (pieces_of text)) ∙ ap (drop 1) (spies.behind ∙ last)

    pub chronicle_told : length rest ≡ 0 → TellsChronicle text (record { opening = o; entries = es; spies = ps; next = n })
    chronicle_told none = record { spies = spies.tells; end = ends; next = entries.turn; whole = behind_all ∙ ap pieces_of (nil_from_length rest none) }

    pub wrong_rest : length rest ≢ 0 → IsFirstWrongInChronicle text (lines_to_end o es ps + 2)
    wrong_rest some = more {o = o} {es = es} {ps = ps} spies.tells ends (λ e. some (ap length (one_text rest [] (sym behind_all ∙ e))))

-- ---- the line of the end

pub other_end : (pieces : List (List ℕ)) (rest : List ℕ) (n m : ℕ) → pieces ≡ end_line n ∷ pieces_of rest → n ≢ m → n ≤ greatest_number → m ≤ greatest_number → ¬ IsLineOf pieces 0 (end_line m)
other_end pieces rest n m first other small fits (next, others, e) =
    let lines : end_line n ∷ pieces_of rest ≡ end_line m ∷ next ∷ others = sym first ∙ e in
    let same : end_line n ≡ end_line m = ap (λ l. get_or l 0 []) lines in
    other (one_number n m small fits (append_cancel_left (codes "end ") (decimal n) (decimal m) same))
