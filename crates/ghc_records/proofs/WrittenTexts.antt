-- What is written of a history is a text that tells it.
use Rattle.ghc_records.proofs.Words.{◌≡◌, ◌≢◌, ℕ, ◌+◌, ◌<◌, ◌≤◌, List, [], ◌∷◌, ◌++◌, drop, length, map, refl, sym, ap, ◌∙◌, subst, arith, decimal, append_assoc, codes, AllByRecursion, drop-drop, GoalName, In, in_at, Tree, term_text, IsInputTerm, IsReadTerm, Goal, Act, ByClause as by_clause, Given as given, Asked as asked, Step, act_text, consumed_text, goal_name_text, step_text, History, IsHistory, IsLineOf, SaysAct, SaysStep, TellsHistory, TellsNext, behind_count, count_line, end_line, greatest_number, heading, history_lines, history_text, lines_text, pieces_of, IsInRange, IsOfAGoal}
use Rattle.ghc_records.proofs.CutLemmas.{behind_both, fits, first_piece}
use Rattle.ghc_records.proofs.PlainTexts.{HasNoFeed, both, byte_first, decimal_text, plain_codes, term_plain}
use Rattle.ghc_records.proofs.TellingHistories.{one_next}
use Rattle.ghc_records.proofs.WrittenSections.{behind_items, front_of, item_there, items_plain}

-- lines without line feeds are the pieces of their text, and nothing comes after the last
pub lines_cut : (lines : List (List ℕ)) → AllByRecursion HasNoFeed lines → pieces_of (lines_text lines) ≡ lines ++ [] ∷ []
lines_cut [] h = refl
lines_cut (line ∷ lines) h = first_piece 10 line (lines_text lines) h.0 ∙ ap (λ l. line ∷ l) (lines_cut lines h.1)

-- the act of a step is said by its text
act_said : (act : Act) → ((k : ℕ) → act ≡ by_clause k → (1 ≤ k) × (k ≤ greatest_number)) → ((u : Tree) → act ≡ given u → IsReadTerm (term_text u) u) → ((gs : List Goal) → act ≢ asked gs) → SaysAct (act_text act) act
act_said (by_clause k) clause input unasked = (refl, (clause k refl).0, (clause k refl).1)
act_said (given u) clause input unasked = (term_text u, refl, input u refl)
act_said (asked gs) clause input unasked = absurd (unasked gs refl)
act_said act clause input unasked = refl

-- no line feed stands in it
act_plain : (act : Act) → ((k : ℕ) → act ≡ by_clause k → k ≤ greatest_number) → ((u : Tree) → act ≡ given u → IsInputTerm u) → ((gs : List Goal) → act ≢ asked gs) → HasNoFeed (act_text act)
act_plain (by_clause k) clause input unasked = both (codes "by ") (decimal k) (plain_codes (codes "by ") refl) (decimal_text k (fits k (clause k refl)))
act_plain (given u) clause input unasked = both (codes "in ") (term_text u) (plain_codes (codes "in ") refl) (term_plain u (input u refl).grammar)
act_plain (asked gs) clause input unasked = absurd (unasked gs refl)
act_plain act clause input unasked = plain_codes (act_text act) refl

-- a step that consumes a goal
module _ (each : (u : Tree) → IsInputTerm u → IsReadTerm (term_text u) u) (s : Step) (is : IsOfAGoal s) where
  abbrev consumed : GoalName
  consumed = is.goal.0

  step_parts : step_text s ≡ decimal s.number ++ (codes " " ++ (goal_name_text consumed ++ (codes " " ++ act_text s.act)))
  step_parts = ap (λ l. decimal s.number ++ (codes " " ++ l)) (ap (λ o. consumed_text o ++ act_text s.act) is.goal.1 ∙ append_assoc (goal_name_text consumed) (codes " ") (act_text s.act))

  pub step_is_said : SaysStep (step_text s) s
  step_is_said = record {
    goal = consumed;
    act = act_text s.act;
    parts = step_parts;
    number = is.number;
    goal_numbers = is.range.goal consumed is.goal.1;
    of_goal = is.goal.1;
    says = act_said s.act (λ k a. (is.clause k a, is.range.clause k a)) (λ u a. each u (is.range.input u a)) is.unasked;
  }

  pub step_is_plain : HasNoFeed (step_text s)
  step_is_plain =
      let numbers = is.range.goal consumed is.goal.1 in
      let goal : HasNoFeed (goal_name_text consumed) =
      both (decimal consumed.step) (codes "." ++ decimal consumed.place) (decimal_text consumed.step (fits consumed.step numbers.0)) (byte_first 46 (decimal consumed.place) (λ e. omega (arith, e)) (decimal_text consumed.place (fits consumed.place numbers.1))) in
      subst HasNoFeed (sym step_parts)
      (both (decimal s.number) (codes " " ++ (goal_name_text consumed ++ (codes " " ++ act_text s.act))) (decimal_text s.number (fits s.number is.number.1))
      (byte_first 32 (goal_name_text consumed ++ (codes " " ++ act_text s.act)) (λ e. omega (arith, e))
      (both (goal_name_text consumed) (codes " " ++ act_text s.act) goal (byte_first 32 (act_text s.act) (λ e. omega (arith, e)) (act_plain s.act is.range.clause is.range.input is.unasked)))))

module _ (each : (u : Tree) → IsInputTerm u → IsReadTerm (term_text u) u) (h : History) (is : IsHistory h) (range : (s : Step) → In s h.steps → IsInRange s) where
  of_a_goal : (s : Step) → In s h.steps → IsOfAGoal s
  of_a_goal s i = record {
    number = ((is.numbered s i).0, omega (arith, (is.numbered s i).1, is.next_number.1));
    goal = is.of_goals s i;
    unasked = λ gs. is.unasked s gs i;
    clause = λ k. is.of_clauses s k i;
    range = range s i;
  }

  plain_count : HasNoFeed (count_line (length h.steps))
  plain_count = both (codes "steps ") (decimal (length h.steps)) (plain_codes (codes "steps ") refl) (decimal_text (length h.steps) (fits (length h.steps) (omega (arith, is.few))))

  plain_end : HasNoFeed (end_line h.next)
  plain_end = both (codes "end ") (decimal h.next) (plain_codes (codes "end ") refl) (decimal_text h.next (fits h.next (omega (arith, is.next_number.1))))

  all_plain : AllByRecursion HasNoFeed (history_lines h)
  all_plain = (plain_codes heading refl, (plain_count, items_plain step_text h.steps (end_line h.next ∷ []) (λ s i. step_is_plain each s (of_a_goal s i)) (plain_end, tt)))

  these_pieces : pieces_of (history_text h) ≡ heading ∷ count_line (length h.steps) ∷ (map step_text h.steps ++ end_line h.next ∷ [] ∷ [])
  these_pieces = lines_cut (history_lines h) all_plain ∙ ap (λ l. heading ∷ count_line (length h.steps) ∷ l) (append_assoc (map step_text h.steps) (end_line h.next ∷ []) ([] ∷ []))

  behind_two : behind_count (history_text h) ≡ map step_text h.steps ++ end_line h.next ∷ [] ∷ []
  behind_two = ap (drop 2) these_pieces

  count_is_told : IsLineOf (pieces_of (history_text h)) 1 (count_line (length h.steps))
  count_is_told = let k = front_of step_text h.steps (end_line h.next) ([] ∷ []) in (k.0, k.1, ap (drop 1) these_pieces ∙ ap (λ l. count_line (length h.steps) ∷ l) k.2)

  end_is_told : TellsNext (behind_count (history_text h)) (length h.steps) h.next
  end_is_told = (([], [], ap (drop (length h.steps)) behind_two ∙ behind_items step_text h.steps (end_line h.next ∷ [] ∷ [])), is.next_number.0, is.next_number.1)

  pub is_told : TellsHistory (history_text h) h
  is_told = record {
    begins = (count_line (length h.steps), map step_text h.steps ++ end_line h.next ∷ [] ∷ [], these_pieces);
    count = (count_is_told, is.few);
    steps = record {
      each = λ i s e. (
        step_text s,
        subst (λ p. IsLineOf p i (step_text s)) (sym behind_two) (item_there step_text h.steps i s (end_line h.next) ([] ∷ []) e),
        step_is_said each s (of_a_goal s (in_at h.steps i s e)),
      );
      distinct = is.distinct;
      below = λ next s told i. subst (λ n. s.number < n) (one_next (behind_count (history_text h)) (length h.steps) h.next next end_is_told told) (is.numbered s i).1;
    };
    next = end_is_told;
    whole =
        behind_both (pieces_of (history_text h)) 2 (length h.steps + 1) (length h.steps + 3) (omega arith) ∙ ap (drop (length h.steps + 1)) behind_two
        ∙ sym (drop-drop 1 (length h.steps) (map step_text h.steps ++ end_line h.next ∷ [] ∷ [])) ∙ ap (drop 1) (behind_items step_text h.steps (end_line h.next ∷ [] ∷ []));
  }
