-- What is written of a chronicle is a text that tells it.
use Rattle.ghc_records.proofs.Words.{◌≡◌, ℕ, suc, ◌+◌, ◌≤◌, All, List, [], ◌∷◌, ◌++◌, drop, length, map, refl, sym, ap, ◌∙◌, subst, arith, decimal, append_assoc, inl, inr, codes, AllByRecursion, drop-drop, In, Tree, Goal, term_text, IsInputTerm, variables_of_goals, firsts, IsReadTerm, IsWithinLimits, HasNumbers, IsWritableGoal, IsPrintedAs, IsReadAs, goals_text, Predicate, kept_limit, Step, Entry, took, undid, rolled, redid, reordered, act_text, body_text, consumed_text, step_text, SaysStep, end_line, pieces_of, Chronicle, AreBelow, AreInTurn, entry_limit, spy_limit, IsNamed, SaysAsking, SaysEntry, SaysGoals, entry_text, numbers_behind, GoTogether, SaysPredicate, predicate_text, TellsChronicle, behind_lines, chronicle_heading, chronicle_lines, chronicle_text, entries_line, lines_to_end, lines_to_spies, opening_line, spies_line, CanBeSaid, CanBeSpied, CanBeTold, IsOfNoGoal}
use Rattle.ghc_records.proofs.CutLemmas.{behind_both, fits}
use Rattle.ghc_records.proofs.PlainTexts.{HasNoFeed, both, decimal_text, name_text, nothing, plain_codes}
use Rattle.ghc_records.proofs.PlainGoals.{body_plain}
use Rattle.ghc_records.proofs.TurnLemmas.{next_fits}
use Rattle.ghc_records.proofs.WrittenAsks.{asked_again, same_text}
use Rattle.ghc_records.proofs.WrittenSections.{behind_section, items_plain, section_written}
use Rattle.ghc_records.proofs.WrittenTexts.{lines_cut, step_is_plain, step_is_said}

-- ---- lines

-- a word, and a number after it
word_plain : (word : List ℕ) (n : ℕ) → HasNoFeed word → n ≤ 4294967295 → HasNoFeed (word ++ decimal n)
word_plain word n plain small = both word (decimal n) plain (decimal_text n (fits n small))

numbers_plain : (ns : List ℕ) → All IsNamed ns → HasNoFeed (numbers_behind ns)
numbers_plain [] all = nothing
numbers_plain (n ∷ ns) all =
    let small : IsNamed n = all 0 0 (omega arith) in
    both (codes " ") (decimal n ++ numbers_behind ns) (plain_codes (codes " ") refl)
    (both (decimal n) (numbers_behind ns) (decimal_text n (fits n small.1)) (numbers_plain ns (λ k d less. all (suc k) d (omega (arith, less)))))

predicate_plain : (p : Predicate) → CanBeSpied p → HasNoFeed (predicate_text p)
predicate_plain p h = both p.name (codes "/" ++ decimal p.arity) (name_text p.name h.0) (word_plain (codes "/") p.arity (plain_codes (codes "/") refl) h.1)

module _ (each : (u : Tree) → IsInputTerm u → IsReadTerm (term_text u) u)
    (goals_again : (gs : List Goal) → ((g : Goal) → In g gs → IsWritableGoal HasNumbers g) → IsWithinLimits gs (length (firsts [] (variables_of_goals gs))) → IsReadAs IsPrintedAs (goals_text gs) gs) where
  -- ---- entries

  module _ (s : Step) (is : IsOfNoGoal s) where
    asking_parts : step_text s ≡ decimal s.number ++ (codes " " ++ (codes "- ask " ++ body_text is.goals))
    asking_parts = λ i. decimal s.number ++ (codes " " ++ (consumed_text (is.none i) ++ act_text (is.asks i)))

    body_says : SaysGoals (body_text is.goals) is.goals
    body_says = asked_again is.goals is.can.writable is.can.of_steps (body_text is.goals) (subst (λ t. IsReadAs IsPrintedAs t is.goals) (sym (same_text is.goals)) (goals_again is.goals is.can.writable is.can.limited)) is.can.shallow is.can.shallow

    asking_is_said : SaysAsking (step_text s) s
    asking_is_said = record {
      goals = is.goals;
      body = body_text is.goals;
      parts = asking_parts;
      number = is.number;
      of_none = is.none;
      asks = is.asks;
      says = body_says;
      new = is.can.new;
    }

    asking_is_plain : HasNoFeed (step_text s)
    asking_is_plain =
        subst HasNoFeed (sym asking_parts)
        (both (decimal s.number) (codes " " ++ (codes "- ask " ++ body_text is.goals)) (decimal_text s.number (fits s.number is.number.1))
        (both (codes " - ask ") (body_text is.goals) (plain_codes (codes " - ask ") refl) (body_plain is.goals is.can.writable)))

  entry_is_said : (e : Entry) → CanBeSaid e → SaysEntry (entry_text e) e
  entry_is_said (took s) (inl h) = inl (step_is_said each s h)
  entry_is_said (took s) (inr h) = inr (asking_is_said s h)
  entry_is_said e h = (refl, h)

  entry_is_plain : (e : Entry) → CanBeSaid e → HasNoFeed (entry_text e)
  entry_is_plain (took s) (inl h) = step_is_plain each s h
  entry_is_plain (took s) (inr h) = asking_is_plain s h
  entry_is_plain (undid n) h = word_plain (codes "undo ") n (plain_codes (codes "undo ") refl) h.1
  entry_is_plain (rolled n) h = word_plain (codes "roll ") n (plain_codes (codes "roll ") refl) h.1
  entry_is_plain (redid n) h = word_plain (codes "redo ") n (plain_codes (codes "redo ") refl) h.1
  entry_is_plain (reordered ns) h = both (codes "arrange") (numbers_behind ns) (plain_codes (codes "arrange") refl) (numbers_plain ns h)

  -- ---- the whole text

  module _ (c : Chronicle) (can : CanBeTold c) where
    abbrev steps : List Step
    steps = c.opening.steps

    abbrev text : List ℕ
    text = chronicle_text c

    -- the lines from the end on, from the spies on, and so on
    abbrev last : List (List ℕ)
    last = end_line c.next ∷ []

    abbrev third : List (List ℕ)
    third = spies_line (length c.spies) ∷ (map predicate_text c.spies ++ last)

    abbrev second : List (List ℕ)
    second = entries_line (length c.entries) ∷ (map entry_text c.entries ++ third)

    -- the pieces from there on
    abbrev from_end : List (List ℕ)
    from_end = end_line c.next ∷ [] ∷ []

    abbrev from_spies : List (List ℕ)
    from_spies = spies_line (length c.spies) ∷ (map predicate_text c.spies ++ from_end)

    abbrev from_entries : List (List ℕ)
    from_entries = entries_line (length c.entries) ∷ (map entry_text c.entries ++ from_spies)

    abbrev from_opening : List (List ℕ)
    from_opening = opening_line c.opening.next (length steps) ∷ (map step_text steps ++ from_entries)

    end_is_plain : HasNoFeed (end_line c.next)
    end_is_plain =
        let small = next_fits c.opening.next c.entries can.first.1 can.in_turn in
        word_plain (codes "end ") c.next (plain_codes (codes "end ") refl) (omega (arith, can.next, small))

    opening_is_plain : HasNoFeed (opening_line c.opening.next (length steps))
    opening_is_plain =
        both (codes "opening ") (decimal (length steps) ++ (codes " " ++ decimal c.opening.next)) (plain_codes (codes "opening ") refl)
        (both (decimal (length steps)) (codes " " ++ decimal c.opening.next) (decimal_text (length steps) (fits (length steps) (omega (arith, can.few_steps))))
        (word_plain (codes " ") c.opening.next (plain_codes (codes " ") refl) (omega (arith, can.first.1))))

    all_plain : AllByRecursion HasNoFeed (chronicle_lines c)
    all_plain =
        let spies : AllByRecursion HasNoFeed third =
        (word_plain (codes "spies ") (length c.spies) (plain_codes (codes "spies ") refl) (omega (arith, can.few_spies)), items_plain predicate_text c.spies last (λ p i. predicate_plain p (can.spies p i)) (end_is_plain, tt)) in
        let entries : AllByRecursion HasNoFeed second =
        (word_plain (codes "entries ") (length c.entries) (plain_codes (codes "entries ") refl) (omega (arith, can.few_entries)), items_plain entry_text c.entries third (λ e i. entry_is_plain e (can.entries e i)) spies) in
        (plain_codes chronicle_heading refl, (opening_is_plain, items_plain step_text steps second (λ s i. step_is_plain each s (can.steps s i)) entries))

    regrouped : chronicle_lines c ++ [] ∷ [] ≡ chronicle_heading ∷ from_opening
    regrouped =
        let spies : third ++ [] ∷ [] ≡ from_spies = ap (λ l. spies_line (length c.spies) ∷ l) (append_assoc (map predicate_text c.spies) last ([] ∷ [])) in
        let entries : second ++ [] ∷ [] ≡ from_entries =
        ap (λ l. entries_line (length c.entries) ∷ l) (append_assoc (map entry_text c.entries) third ([] ∷ []) ∙ ap (λ l. map entry_text c.entries ++ l) spies) in
        ap (λ l. chronicle_heading ∷ opening_line c.opening.next (length steps) ∷ l) (append_assoc (map step_text steps) second ([] ∷ []) ∙ ap (λ l. map step_text steps ++ l) entries)

    these_pieces : pieces_of text ≡ chronicle_heading ∷ from_opening
    these_pieces = lines_cut (chronicle_lines c) all_plain ∙ regrouped

    at_opening : behind_lines 1 text ≡ from_opening
    at_opening = ap (drop 1) these_pieces

    at_entries : behind_lines (length steps + 2) text ≡ from_entries
    at_entries =
        behind_both (pieces_of text) 1 (length steps + 1) (length steps + 2) (omega arith)
        ∙ behind_section step_text (opening_line c.opening.next (length steps)) steps from_entries (behind_lines 1 text) at_opening

    at_spies : behind_lines (lines_to_spies c.opening c.entries) text ≡ from_spies
    at_spies =
        behind_both (pieces_of text) (length steps + 2) (length c.entries + 1) (lines_to_spies c.opening c.entries) (omega arith)
        ∙ behind_section entry_text (entries_line (length c.entries)) c.entries from_spies (behind_lines (length steps + 2) text) at_entries

    at_end : behind_lines (lines_to_end c.opening c.entries c.spies) text ≡ from_end
    at_end =
        behind_both (pieces_of text) (lines_to_spies c.opening c.entries) (length c.spies + 1) (lines_to_end c.opening c.entries c.spies) (omega arith)
        ∙ behind_section predicate_text (spies_line (length c.spies)) c.spies from_end (behind_lines (lines_to_spies c.opening c.entries) text) at_spies

    pub chronicle_is_told : TellsChronicle text c
    chronicle_is_told = record {
      spies = record {
        entries = record {
          opening = record {
            begins = (opening_line c.opening.next (length steps), map step_text steps ++ from_entries, these_pieces);
            steps = section_written step_text SaysStep (AreBelow c.opening.next) (opening_line c.opening.next) kept_limit steps (entries_line (length c.entries)) (map entry_text c.entries ++ from_spies) (behind_lines 1 text) at_opening can.few_steps
                (λ s i. step_is_said each s (can.steps s i)) can.below;
            next = can.first;
          };
          entries = section_written entry_text SaysEntry (AreInTurn c.opening.next) entries_line entry_limit c.entries (spies_line (length c.spies)) (map predicate_text c.spies ++ from_end) (behind_lines (length steps + 2) text) at_entries can.few_entries
              (λ e i. entry_is_said e (can.entries e i)) can.in_turn;
        };
        spies = section_written predicate_text SaysPredicate GoTogether spies_line spy_limit c.spies (end_line c.next) ([] ∷ []) (behind_lines (lines_to_spies c.opening c.entries) text) at_spies can.few_spies (λ p i. (refl, (can.spies p i).0, (can.spies p i).1)) tt;
      };
      end = ([], [], at_end ∙ ap (λ n. end_line n ∷ [] ∷ []) can.next);
      next = can.next;
      whole = sym (drop-drop 1 (lines_to_end c.opening c.entries c.spies) (pieces_of text)) ∙ ap (drop 1) at_end;
    }
