-- A text tells one history, or has one first wrong line, and never both.
use Rattle.ghc_records.proofs.Words.{◌≡◌, ℕ, ◌+◌, ◌≤◌, inl, inr, List, [], ◌∷◌, ◌++◌, drop, length, refl, sym, ap, ◌∙◌, subst, arith, decimal, Result, Ok, Err, codes, append_cancel_left, Fault, Answered, IsExact, Tree, IsReadTerm, Step, SaysStep, History, IsFirstWrongLine, IsHistoryRefusal, TellsCount, TellsHistory, TellsNext, TellsNoMore, TellsSteps, behind_count, count_line, pieces_of}
use Rattle.ghc_records.specs.HistoryText.{more, no_count, no_end, no_heading, no_step}
use Rattle.ghc_records.proofs.CutLemmas.{one_number}
use Rattle.ghc_records.proofs.CutTexts.{fewer_apart}
use Rattle.ghc_records.proofs.OneStep.{one_line, one_step}
use Rattle.ghc_records.proofs.OneSection as section
use Rattle.ghc_records.proofs.TellingSteps.{AreApart, IsBelow, as_items, as_steps}
use Rattle.ghc_records.proofs.TellingHistories.{one_next}

pub one_count : (text : List ℕ) (m n : ℕ) → TellsCount text m → TellsCount text n → m ≡ n
one_count text m n h k =
    let same : count_line m ≡ count_line n = one_line (pieces_of text) 1 (count_line m) (count_line n) h.0 k.0 in
    one_number m n (omega (arith, h.1)) (omega (arith, k.1)) (append_cancel_left (codes "steps ") (decimal m) (decimal n) same)

module _ (one_term : (text : List ℕ) (u other : Tree) → IsReadTerm text u → IsReadTerm text other → u ≡ other) where
  -- the pieces tell no more steps than those after which they tell no further one
  not_longer : (pieces : List (List ℕ)) (count : ℕ) (stopped steps : List Step) → TellsNoMore pieces count stopped → TellsSteps pieces count steps → length steps ≤ length stopped
  not_longer pieces count stopped steps h told =
      section.not_longer SaysStep (AreApart (IsBelow pieces count)) (one_step one_term) (fewer_apart (IsBelow pieces count)) pieces count stopped steps
      (as_items pieces count stopped h.0, h.1, λ s more. h.2 s (as_steps pieces count (stopped ++ s ∷ []) more)) (as_items pieces count steps told)

  pub one_history : (text : List ℕ) (h k : History) → TellsHistory text h → TellsHistory text k → h ≡ k
  one_history text h k told other =
      let lengths : length h.steps ≡ length k.steps = one_count text (length h.steps) (length k.steps) told.count other.count in
      let same = subst (λ n. TellsSteps (behind_count text) n k.steps) (sym lengths) other.steps in
      let fit = IsBelow (behind_count text) (length h.steps) in
      let steps : h.steps ≡ k.steps = section.one_list SaysStep (AreApart fit) (one_step one_term) (fewer_apart fit) (behind_count text) h.steps k.steps
      (as_items (behind_count text) (length h.steps) h.steps told.steps) (as_items (behind_count text) (length h.steps) k.steps same) lengths in
      let next : h.next ≡ k.next = one_next (behind_count text) (length h.steps) h.next k.next told.next (subst (λ n. TellsNext (behind_count text) n k.next) (sym lengths) other.next) in
      ap (λ l. record { steps = l; next = h.next }) steps ∙ ap (λ n. record { steps = k.steps; next = n }) next

  module _ (text : List ℕ) where
    -- the line after those that tell steps is unique
    one_stop : (m n : ℕ) (steps others : List Step) → TellsCount text m → TellsCount text n → TellsNoMore (behind_count text) m steps → TellsNoMore (behind_count text) n others → length steps + 3 ≡ length others + 3
    one_stop m n steps others c d h k =
        let same = one_count text m n c d in
        let k2 = subst (λ j. TellsNoMore (behind_count text) j others) (sym same) k in
        let less = not_longer (behind_count text) m others steps k2 h.0 in
        let more = not_longer (behind_count text) m steps others h k2.0 in
        omega (arith, less, more)

    -- where the pieces tell all steps, no line stops them
    no_stop : (m n : ℕ) (steps others : List Step) → TellsCount text m → TellsCount text n → TellsNoMore (behind_count text) m steps → TellsSteps (behind_count text) n others → length others ≡ n → ⊥
    no_stop m n steps others c d h k all =
        let same = one_count text m n c d in
        let least = not_longer (behind_count text) m steps others h (subst (λ j. TellsSteps (behind_count text) j others) (sym same) k) in
        omega (arith, least, h.1, same, all)

    counts_alike : (m n j : ℕ) → TellsCount text m → TellsCount text n → m + j ≡ n + j
    counts_alike m n j c d = ap (λ k. k + j) (one_count text m n c d)

    other_next : (m n next : ℕ) → TellsCount text m → TellsCount text n → ((k : ℕ) → ¬ TellsNext (behind_count text) m k) → ¬ TellsNext (behind_count text) n next
    other_next m n next c d none told = none next (subst (λ j. TellsNext (behind_count text) j next) (sym (one_count text m n c d)) told)

    pub never_both : (h : History) (line : ℕ) → TellsHistory text h → ¬ IsFirstWrongLine text line
    never_both h line told (no_heading none) = none told.begins
    never_both h line told (no_count begins none) = none (length h.steps) told.count
    never_both h line told (no_step {count = m} {steps = steps} begins c stop) = no_stop m (length h.steps) steps h.steps c told.count stop told.steps refl
    never_both h line told (no_end {count = m} begins c steps all none) = other_next m (length h.steps) h.next c told.count none told.next
    never_both h line told (more {count = m} begins c steps all ends some) = some (ap (λ k. drop (k + 3) (pieces_of text)) (one_count text m (length h.steps) c told.count) ∙ told.whole)

    pub one_wrong_line : (i j : ℕ) → IsFirstWrongLine text i → IsFirstWrongLine text j → i ≡ j
    one_wrong_line i j (no_heading none) (no_heading other) = refl
    one_wrong_line i j (no_heading none) (no_count begins other) = absurd (none begins)
    one_wrong_line i j (no_heading none) (no_step begins c stop) = absurd (none begins)
    one_wrong_line i j (no_heading none) (no_end begins c steps all other) = absurd (none begins)
    one_wrong_line i j (no_heading none) (more begins c steps all ends some) = absurd (none begins)
    one_wrong_line i j (no_count begins none) (no_heading other) = absurd (other begins)
    one_wrong_line i j (no_count begins none) (no_count starts other) = refl
    one_wrong_line i j (no_count begins none) (no_step {count = n} starts d stop) = absurd (none n d)
    one_wrong_line i j (no_count begins none) (no_end {count = n} starts d steps all other) = absurd (none n d)
    one_wrong_line i j (no_count begins none) (more {count = n} starts d steps all ends some) = absurd (none n d)
    one_wrong_line i j (no_step begins c stop) (no_heading other) = absurd (other begins)
    one_wrong_line i j (no_step {count = m} begins c stop) (no_count starts other) = absurd (other m c)
    one_wrong_line i j (no_step {count = m} {steps = steps} begins c stop) (no_step {count = n} {steps = others} starts d rest) = one_stop m n steps others c d stop rest
    one_wrong_line i j (no_step {count = m} {steps = steps} begins c stop) (no_end {count = n} {steps = others} starts d told all other) = absurd (no_stop m n steps others c d stop told all)
    one_wrong_line i j (no_step {count = m} {steps = steps} begins c stop) (more {count = n} {steps = others} starts d told all ends some) = absurd (no_stop m n steps others c d stop told all)
    one_wrong_line i j (no_end begins c told all none) (no_heading other) = absurd (other begins)
    one_wrong_line i j (no_end {count = m} begins c told all none) (no_count starts other) = absurd (other m c)
    one_wrong_line i j (no_end {count = m} {steps = steps} begins c told all none) (no_step {count = n} {steps = others} starts d stop) = absurd (no_stop n m others steps d c stop told all)
    one_wrong_line i j (no_end {count = m} begins c told all none) (no_end {count = n} starts d others every other) = counts_alike m n 3 c d
    one_wrong_line i j (no_end {count = m} begins c told all none) (more {count = n} {next = next} starts d others every ends some) = absurd (other_next m n next c d none ends)
    one_wrong_line i j (more begins c told all ends some) (no_heading other) = absurd (other begins)
    one_wrong_line i j (more {count = m} begins c told all ends some) (no_count starts other) = absurd (other m c)
    one_wrong_line i j (more {count = m} {steps = steps} begins c told all ends some) (no_step {count = n} {steps = others} starts d stop) = absurd (no_stop n m others steps d c stop told all)
    one_wrong_line i j (more {count = m} {next = next} begins c told all ends some) (no_end {count = n} starts d others every other) = absurd (other_next n m next d c other ends)
    one_wrong_line i j (more {count = m} begins c told all ends some) (more {count = n} starts d others every stops rest) = counts_alike m n 4 c d

  refused_once : (text : List ℕ) (d e : Fault) → IsHistoryRefusal text d → IsHistoryRefusal text e → d ≡ e
  refused_once text d e (i, is, wrong) (j, other, also) = is ∙ ap Fault.History (one_wrong_line text i j wrong also) ∙ sym other

  pub exact : (text : List ℕ) (result : Result History Fault) → Answered (TellsHistory text) (IsHistoryRefusal text) result → IsExact (TellsHistory text) (IsHistoryRefusal text) result
  exact text (Ok h) told = record {
    gives = λ k other. one_history text h k told.0 other;
    refuses = λ e refused. absurd (never_both text h refused.0 told.0 refused.2);
  }
  exact text (Err d) told = record {
    gives = λ k other. elim told.1 [ inl memory ↦ memory | inr refused ↦ absurd (never_both text k refused.0 other refused.2) ];
    refuses = λ e refused. elim told.1 [ inl memory ↦ inr memory | inr first ↦ inl (refused_once text d e first refused) ];
  }
