-- A text tells one chronicle at most, and none where a line of it is wrong.
use Rattle.ghc_records.proofs.Words.{◌≡◌, ℕ, zero, suc, ◌+◌, ◌≤◌, List, [], ◌∷◌, ◌++◌, take, drop, length, refl, sym, ap, ◌∙◌, subst, arith, decimal, codes, append_cancel_left, drop-drop, Tree, IsReadBody, IsReadTerm, WrittenAsk, Predicate, kept_limit, Step, Entry, History, IsLine, SaysStep, greatest_number, pieces_of, TellsNoMoreItems, TellsSection, Chronicle, AreBelow, AreInTurn, entry_limit, next_after, next_behind, spy_limit, SaysEntry, GoTogether, SaysPredicate, IsFirstWrongInChronicle, IsNext, TellsChronicle, TellsEnd, TellsEntries, TellsOpening, TellsSpies, behind_lines, entries_line, lines_to_end, lines_to_spies, no_end, no_entry, no_heading, no_opening, no_spy, no_step, opening_line, spies_line}
use Rattle.ghc_records.specs.ChronicleText.{more}
use Rattle.ghc_records.proofs.CutLemmas.{cut_once, number_plain, one_number}
use Rattle.ghc_records.proofs.CutTexts.{fewer_apart}
use Rattle.ghc_records.proofs.OneEntry.{one_entry, one_predicate}
use Rattle.ghc_records.proofs.OneSection as section
use Rattle.ghc_records.proofs.OneStep.{one_line, one_step}
use Rattle.ghc_records.proofs.TellingSteps.{IsUnder}

-- ---- the first of what goes together goes together

pub fewer_steps : (next n : ℕ) (steps : List Step) → AreBelow next steps → AreBelow next (take n steps)
fewer_steps next = fewer_apart (IsUnder next)

pub fewer_entries : (next n : ℕ) (es : List Entry) → AreInTurn next es → AreInTurn next (take n es)
fewer_entries next zero es turn = tt
fewer_entries next (suc n) [] turn = tt
fewer_entries next (suc n) (e ∷ es) turn = (turn.0, fewer_entries (next_after next e) n es turn.1)

-- ---- lines that tell how many there are

amounts_apart : (word : List ℕ) (limit m n : ℕ) → limit ≤ greatest_number → m ≤ limit → n ≤ limit → word ++ decimal m ≡ word ++ decimal n → m ≡ n
amounts_apart word limit m n fits few low e = one_number m n (omega (arith, fits, few)) (omega (arith, fits, low)) (append_cancel_left word (decimal m) (decimal n) e)

openings_apart : (next other m n : ℕ) → IsNext next → IsNext other → m ≤ kept_limit → n ≤ kept_limit → opening_line next m ≡ opening_line other n → (next ≡ other) × (m ≡ n)
openings_apart next other m n fits low few less e =
    let rest = append_cancel_left (codes "opening ") (decimal m ++ 32 ∷ decimal next) (decimal n ++ 32 ∷ decimal other) e in
    let parts = cut_once 32 (decimal m) (decimal next) (decimal n) (decimal other) (number_plain 32 m refl (omega (arith, few))) (number_plain 32 n refl (omega (arith, less))) rest in
    (one_number next other (omega (arith, fits.1)) (omega (arith, low.1)) parts.1, one_number m n (omega (arith, few)) (omega (arith, less)) parts.0)

module _ (one_term : (text : List ℕ) (u other : Tree) → IsReadTerm text u → IsReadTerm text other → u ≡ other)
    (one_body : (text : List ℕ) (a other : WrittenAsk) → IsReadBody text a → IsReadBody text other → a ≡ other)
    (text : List ℕ) where
  -- ---- openings

  one_opening : (o p : History) → TellsOpening text o → TellsOpening text p → o ≡ p
  one_opening o p h k =
      let lines = one_line (behind_lines 1 text) 0 (opening_line o.next (length o.steps)) (opening_line p.next (length p.steps)) h.steps.count k.steps.count in
      let same = openings_apart o.next p.next (length o.steps) (length p.steps) h.next k.next h.steps.few k.steps.few lines in
      let steps = section.one_list SaysStep (AreBelow p.next) (one_step one_term) (fewer_steps p.next) (drop 1 (behind_lines 1 text)) o.steps p.steps
      (subst (λ n. TellsSection SaysStep (AreBelow n) (opening_line n) kept_limit (behind_lines 1 text) o.steps) same.0 h.steps).told k.steps.told same.1 in
      let next = same.0 in
      λ i. record { steps = steps i; next = next i }

  wrong_step : (o : History) (next count : ℕ) (steps : List Step) → TellsOpening text o → IsNext next → count ≤ kept_limit → IsLine text 1 (opening_line next count) → ¬ TellsNoMoreItems SaysStep (AreBelow next) (behind_lines 2 text) count steps
  wrong_step o next count steps h fits few stands stop =
      let lines = one_line (pieces_of text) 1 (opening_line o.next (length o.steps)) (opening_line next count) h.steps.count stands in
      let same = openings_apart o.next next (length o.steps) count h.next fits h.steps.few few lines in
      let told = (subst (λ n. TellsSection SaysStep (AreBelow n) (opening_line n) kept_limit (behind_lines 1 text) o.steps) same.0 h.steps).told in
      let behind : behind_lines 2 text ≡ drop 1 (behind_lines 1 text) = sym (drop-drop 1 1 (pieces_of text)) in
      let stopped = subst (λ p. TellsNoMoreItems SaysStep (AreBelow next) p count steps) behind stop in
      omega (arith, same.1, section.not_longer SaysStep (AreBelow next) (one_step one_term) (fewer_steps next) (drop 1 (behind_lines 1 text)) count steps o.steps stopped told, stop.1)

  -- ---- entries

  one_journal : (o : History) (es fs : List Entry) → TellsEntries text o es → TellsEntries text o fs → es ≡ fs
  one_journal o es fs h k =
      section.one_section SaysEntry (AreInTurn o.next) (one_entry one_term one_body) (fewer_entries o.next) entries_line entry_limit (λ m n few low. amounts_apart (codes "entries ") entry_limit m n (omega arith) few low)
      (behind_lines (length o.steps + 2) text) es fs h.entries k.entries

  right_entries : (o p : History) (es : List Entry) → TellsEntries text p es → TellsOpening text o → TellsEntries text o es
  right_entries o p es h k = subst (λ q. TellsEntries text q es) (one_opening p o h.opening k) h

  -- ---- spies

  one_spying : (o : History) (es : List Entry) (ps qs : List Predicate) → TellsSpies text o es ps → TellsSpies text o es qs → ps ≡ qs
  one_spying o es ps qs h k =
      section.one_section SaysPredicate GoTogether one_predicate (λ n xs fit. tt) spies_line spy_limit (λ m n few low. amounts_apart (codes "spies ") spy_limit m n (omega arith) few low)
      (behind_lines (lines_to_spies o es) text) ps qs h.spies k.spies

  right_spies : (o p : History) (es fs : List Entry) (ps : List Predicate) → TellsSpies text p fs ps → TellsEntries text o es → (o ≡ p) × ((es ≡ fs) × TellsSpies text o es ps)
  right_spies o p es fs ps h k =
      let opening = one_opening p o h.entries.opening k.opening in
      let there = subst (λ q. TellsSpies text q fs ps) opening h in
      let entries = one_journal o fs es there.entries k in
      (sym opening, (sym entries, subst (λ l. TellsSpies text o l ps) entries there))

  -- ---- chronicles

  -- the chronicle is what the parts tell
  parts : (c : Chronicle) (o : History) (es : List Entry) (ps : List Predicate) → TellsChronicle text c → TellsSpies text o es ps → c ≡ record { opening = o; entries = es; spies = ps; next = c.next }
  parts c o es ps h k =
      let same = right_spies c.opening o c.entries es ps k h.spies.entries in
      let opening = same.0 in
      let entries = same.1.0 in
      let spies = one_spying c.opening c.entries c.spies ps h.spies same.1.1 in
      λ i. record { opening = opening i; entries = entries i; spies = spies i; next = c.next }

  pub one_chronicle : (c d : Chronicle) → TellsChronicle text c → TellsChronicle text d → c ≡ d
  one_chronicle c d h k =
      let same = parts c d.opening d.entries d.spies h k.spies in
      let next : c.next ≡ d.next = h.next ∙ ap (λ x. next_behind x.opening.next x.entries) same ∙ sym k.next in
      same ∙ ap (λ n. record { opening = d.opening; entries = d.entries; spies = d.spies; next = n }) next

  pub never_wrong : (c : Chronicle) (line : ℕ) → TellsChronicle text c → ¬ IsFirstWrongInChronicle text line
  never_wrong c line h (no_heading none) = none h.spies.entries.opening.begins
  never_wrong c line h (no_opening begins none) = none c.opening.next (length c.opening.steps) h.spies.entries.opening.next h.spies.entries.opening.steps.few h.spies.entries.opening.steps.count
  never_wrong c line h (no_step {next = n} {count = m} {steps = steps} begins fits few stands stop) = wrong_step c.opening n m steps h.spies.entries.opening fits few stands stop
  never_wrong c line h (no_entry {o = o} {i = i} opens wrong) =
      section.never_wrong SaysEntry (AreInTurn o.next) (one_entry one_term one_body) (fewer_entries o.next) entries_line entry_limit (λ m n few low. amounts_apart (codes "entries ") entry_limit m n (omega arith) few low)
      (behind_lines (length o.steps + 2) text) c.entries i (right_entries o c.opening c.entries h.spies.entries opens).entries wrong
  never_wrong c line h (no_spy {o = o} {es = es} {i = i} tells wrong) =
      section.never_wrong SaysPredicate GoTogether one_predicate (λ n xs fit. tt) spies_line spy_limit (λ m n few low. amounts_apart (codes "spies ") spy_limit m n (omega arith) few low)
      (behind_lines (lines_to_spies o es) text) c.spies i (right_spies o c.opening es c.entries c.spies h.spies tells).1.1.spies wrong
  never_wrong c line h (no_end {o = o} {es = es} {ps = ps} tells none) =
      none (subst (λ d. TellsEnd text d.opening d.entries d.spies) (parts c o es ps h tells) h.end)
  never_wrong c line h (more {o = o} {es = es} {ps = ps} tells ends some) =
      some (subst (λ d. behind_lines (lines_to_end d.opening d.entries d.spies + 1) text ≡ [] ∷ []) (parts c o es ps h tells) h.whole)
