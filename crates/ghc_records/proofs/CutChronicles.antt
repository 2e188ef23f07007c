-- A text of a chronicle that is cut off is refused with the line after its last line feed.
use Rattle.ghc_records.proofs.Words.{◌≡◌, ◌≢◌, ℕ, ◌+◌, ◌<◌, ◌≤◌, cases_lt, inl, inr, List, [], ◌∷◌, ◌++◌, drop, take, length, sym, ap, ◌∙◌, subst, arith, length-drop, drop-drop, kept_limit, Step, IsLine, IsLineOf, SaysStep, end_line, pieces_of, line_feeds, TellsItems, TellsNoMoreItems, Chronicle, AreBelow, AreInTurn, entry_limit, next_behind, spy_limit, SaysEntry, GoTogether, SaysPredicate, IsFirstWrongInChronicle, TellsChronicle, TellsEntries, TellsOpening, TellsSpies, chronicle_heading, entries_line, lines_to_end, lines_to_spies, no_end, no_entry, no_heading, no_opening, no_spy, no_step, opening_line, spies_line}
use Rattle.ghc_records.proofs.CutSections.{cut_behind, cut_section, first_length, kept_section, none_behind}
use Rattle.ghc_records.proofs.OneChronicle.{fewer_entries, fewer_steps}
use Rattle.ghc_records.proofs.CutTexts.{IsCut, cut_at, feeds_of, line_kept, no_line_left, nothing_behind}

module _ (front back : List ℕ) (c : Chronicle) (some : back ≢ []) (told : TellsChronicle (front ++ back) c) (lines : List (List ℕ)) (cut : IsCut front back lines) where
  abbrev steps : List Step
  steps = c.opening.steps

  abbrev x : List ℕ
  x = cut.last ++ cut.more

  abbrev to_spies : ℕ
  to_spies = lines_to_spies c.opening c.entries

  abbrev to_end : ℕ
  to_end = lines_to_end c.opening c.entries c.spies

  -- a line in front of the cut stands in the front too, and from the cut on there is none
  stands : (i : ℕ) (line : List ℕ) → i < length lines → IsLine (front ++ back) i line → IsLine front i line
  stands i line low is = subst (λ p. IsLineOf p i line) (sym cut.front_pieces) (line_kept lines x cut.last cut.others i line low (subst (λ p. IsLineOf p i line) cut.text_pieces is))

  none_stands : (i : ℕ) (line : List ℕ) → length lines ≤ i → ¬ IsLine front i line
  none_stands i line far is = no_line_left lines cut.last i line far (subst (λ p. IsLineOf p i line) cut.front_pieces is)

  -- not all lines stand in front of the cut
  not_all : length lines < to_end + 1
  not_all = elim (cases_lt (length lines) (to_end + 1)) [
    | inl low ↦ low
    | inr far ↦ absurd (some (nothing_behind front back (to_end + 1) lines cut far told.whole))
  ]

  opens : TellsOpening (front ++ back) c.opening
  opens = told.spies.entries.opening

  heading_there : 1 ≤ length lines → IsLine front 0 chronicle_heading
  heading_there far = stands 0 chronicle_heading far opens.begins

  opening_there : 2 ≤ length lines → IsLine front 1 (opening_line c.opening.next (length steps))
  opening_there far = stands 1 (opening_line c.opening.next (length steps)) far opens.steps.count

  -- the cut stands in front of the opening's last step
  module _ (far : 2 ≤ length lines) (low : length lines < length steps + 2) where
    abbrev rest : List (List ℕ)
    rest = drop 2 lines

    rest_length : length rest + 2 ≡ length lines
    rest_length = omega (arith, length-drop 2 lines, far)

    items_told : TellsItems SaysStep (AreBelow c.opening.next) (rest ++ x ∷ cut.others) steps
    items_told =
        let pieces = pieces_of (front ++ back) in
        subst (λ p. TellsItems SaysStep (AreBelow c.opening.next) p steps) (drop-drop 1 1 pieces ∙ ap (drop 2) cut.text_pieces ∙ cut_behind 2 lines x cut.others far) opens.steps.told

    wrong_step : IsFirstWrongInChronicle front (length lines + 1)
    wrong_step =
        let none = none_behind SaysStep (AreBelow c.opening.next) (fewer_steps c.opening.next) x cut.last cut.others rest steps items_told (omega (arith, rest_length, low)) in
        let size = first_length SaysStep (AreBelow c.opening.next) (fewer_steps c.opening.next) x cut.last cut.others rest steps items_told (omega (arith, rest_length, low)) in
        let there = sym (ap (drop 2) cut.front_pieces ∙ cut_behind 2 lines cut.last [] far) in
        let place : length (take (length rest) steps) + 3 ≡ length lines + 1 = omega (arith, size, rest_length) in
        subst (IsFirstWrongInChronicle front) place
        (no_step {next = c.opening.next} {count = length steps} {steps = take (length rest) steps} (heading_there (omega (arith, far))) opens.next opens.steps.few (opening_there far)
        (subst (λ p. TellsNoMoreItems SaysStep (AreBelow c.opening.next) p (length steps) (take (length rest) steps)) there none))

  -- .. or after it
  module _ (far : length steps + 2 ≤ length lines) where
    front_opens : TellsOpening front c.opening
    front_opens = record {
      begins = heading_there (omega (arith, far));
      steps = kept_section SaysStep (AreBelow c.opening.next) (fewer_steps c.opening.next) x cut.last cut.others (opening_line c.opening.next) kept_limit steps lines 1 (pieces_of front) (pieces_of (front ++ back))
          cut.front_pieces cut.text_pieces opens.steps (omega (arith, far)) (omega (arith, far));
      next = opens.next;
    }

    wrong_entry : length lines < to_spies → IsFirstWrongInChronicle front (length lines + 1)
    wrong_entry low =
        let k = cut_section SaysEntry (AreInTurn c.opening.next) (fewer_entries c.opening.next) x cut.last cut.others entries_line entry_limit c.entries lines (length steps + 2) (pieces_of front) (pieces_of (front ++ back))
        cut.front_pieces cut.text_pieces told.spies.entries.entries far (omega (arith, low)) in
        let place : length steps + 3 + k.0 ≡ length lines + 1 = omega (arith, k.1) in
        subst (IsFirstWrongInChronicle front) place (no_entry {o = c.opening} {i = k.0} front_opens k.2)

  module _ (far : to_spies ≤ length lines) where
    front_enters : TellsEntries front c.opening c.entries
    front_enters = record {
      opening = front_opens (omega (arith, far));
      entries = kept_section SaysEntry (AreInTurn c.opening.next) (fewer_entries c.opening.next) x cut.last cut.others entries_line entry_limit c.entries lines (length steps + 2) (pieces_of front) (pieces_of (front ++ back))
          cut.front_pieces cut.text_pieces told.spies.entries.entries (omega (arith, far)) (omega (arith, far));
    }

    wrong_spy : length lines < to_end → IsFirstWrongInChronicle front (length lines + 1)
    wrong_spy low =
        let k = cut_section SaysPredicate GoTogether (λ n ps fit. tt) x cut.last cut.others spies_line spy_limit c.spies lines to_spies (pieces_of front) (pieces_of (front ++ back))
        cut.front_pieces cut.text_pieces told.spies.spies far (omega (arith, low)) in
        let place : to_spies + 1 + k.0 ≡ length lines + 1 = omega (arith, k.1) in
        subst (IsFirstWrongInChronicle front) place (no_spy {o = c.opening} {es = c.entries} {i = k.0} front_enters k.2)

    wrong_end : to_end ≤ length lines → IsFirstWrongInChronicle front (length lines + 1)
    wrong_end all =
        let spies : TellsSpies front c.opening c.entries c.spies = record {
          entries = front_enters;
          spies = kept_section SaysPredicate GoTogether (λ n ps fit. tt) x cut.last cut.others spies_line spy_limit c.spies lines to_spies (pieces_of front) (pieces_of (front ++ back))
              cut.front_pieces cut.text_pieces told.spies.spies far (omega (arith, all));
        } in
        let place : to_end + 1 ≡ length lines + 1 = omega (arith, all, not_all) in
        subst (IsFirstWrongInChronicle front) place
        (no_end {o = c.opening} {es = c.entries} {ps = c.spies} spies (λ is. none_stands to_end (end_line (next_behind c.opening.next c.entries)) (omega (arith, not_all)) is))

  -- the line after those in front of the cut is wrong
  refused_behind : 2 ≤ length lines → IsFirstWrongInChronicle front (length lines + 1)
  refused_behind far = elim (cases_lt (length lines) (length steps + 2)) [
    | inl low ↦ wrong_step far low
    | inr opened ↦ elim (cases_lt (length lines) to_spies) [
      | inl low ↦ wrong_entry opened low
      | inr entered ↦ elim (cases_lt (length lines) to_end) [ inl low ↦ wrong_spy entered low | inr all ↦ wrong_end entered all ]
    ]
  ]

  refused_at : IsFirstWrongInChronicle front (length lines + 1)
  refused_at = elim (cases_lt (length lines) 1) [
    | inl none ↦
        let place : 1 ≡ length lines + 1 = omega (arith, none) in
        subst (IsFirstWrongInChronicle front) place (no_heading (λ is. none_stands 0 chronicle_heading (omega (arith, none)) is))
    | inr one ↦ elim (cases_lt (length lines) 2) [
      | inl low ↦
          let place : 2 ≡ length lines + 1 = omega (arith, one, low) in
          subst (IsFirstWrongInChronicle front) place (no_opening (heading_there one) (λ next count fits few is. none_stands 1 (opening_line next count) (omega (arith, low)) is))
      | inr far ↦ refused_behind far
    ]
  ]

pub chronicle_refused : (front back : List ℕ) (c : Chronicle) → back ≢ [] → TellsChronicle (front ++ back) c → IsFirstWrongInChronicle front (line_feeds front + 1)
chronicle_refused front back c some told =
    let (lines, cut) = cut_at front back in
    subst (λ n. IsFirstWrongInChronicle front (n + 1)) (sym (feeds_of front back lines cut)) (refused_at front back c some told lines cut)
