-- Lemmas on texts that tell histories, and on the first line of a text that is wrong.
use Rattle.ghc_records.proofs.Words.{◌≡◌, ℕ, ◌+◌, ◌<◌, ◌≤◌, List, [], ◌∷◌, drop, get_or, length, refl, sym, ap, ◌∙◌, subst, arith, decimal, Option, Some, None, IfSome, IfNone, ◌↔◌, codes, option_map, append_cancel_left, nil_from_length, Fault, kept_limit, Step, IsFirstWrongLine, IsHistoryRefusal, IsLine, IsLineOf, TellsCount, TellsHistory, TellsNext, TellsNoMore, TellsSteps, behind_count, count_line, end_line, heading, pieces_of}
use Rattle.std.proofs.Common.{Bor}
use Rattle.ghc_records.specs.HistoryText.{more, no_count, no_end, no_step}
use Rattle.ghc_records.proofs.CutLemmas.{behind_both, line_stands, one_number, one_text}

-- the heading is there
pub begins : (text counted : List ℕ) → pieces_of text ≡ heading ∷ pieces_of counted → IsLine text 0 heading
begins text counted first = line_stands (pieces_of text) 0 text heading counted refl first

-- .. and no count
pub wrong_count : (text counted : List ℕ) → pieces_of text ≡ heading ∷ pieces_of counted → ((count : ℕ) → count ≤ kept_limit → ¬ IsLineOf (pieces_of counted) 0 (count_line count)) → IsFirstWrongLine text 2
wrong_count text counted first none = no_count (begins text counted first) (λ count t. let (next, others, e) = t.0 in none count t.1 (next, others, sym (ap (drop 1) first) ∙ e))

-- an end tells one number
pub one_next : (pieces : List (List ℕ)) (count m n : ℕ) → TellsNext pieces count m → TellsNext pieces count n → m ≡ n
one_next pieces count m n h k =
    let (next, others, e) = h.0 in
    let (other, further, f) = k.0 in
    let lines : end_line m ∷ next ∷ others ≡ end_line n ∷ other ∷ further = sym e ∙ f in
    let same : end_line m ≡ end_line n = ap (λ l. get_or l 0 []) lines in
    one_number m n (omega (arith, h.2)) (omega (arith, k.2)) (append_cancel_left (codes "end ") (decimal m) (decimal n) same)

-- a bound is known where the end tells one
pub bound_told : (pieces : List (List ℕ)) (count : ℕ) (end : Option (ℕ × Bor (List ℕ))) (bound : Option ℕ) → bound ≡ option_map (λ t. t.0) end → IfSome end (λ t. TellsNext pieces count t.0)
    → IfNone end ((next : ℕ) → ¬ TellsNext pieces count next) → (next : ℕ) → (bound ≡ Some next) ↔ TellsNext pieces count next
bound_told pieces count None bound is some none next = (λ e. let clash : None ≡ Some next = sym is ∙ e in cc, λ t. absurd (none next t))
bound_told pieces count (Some t) bound is some none next = (
  λ e. let both : Some t.0 ≡ Some next = sym is ∙ e in let same : t.0 ≡ next = cc in subst (TellsNext pieces count) same some,
  λ h. is ∙ ap Some (one_next pieces count t.0 next some h),
)

-- heading and count are there
module _ (text counted told : List ℕ) (count : ℕ) (first : pieces_of text ≡ heading ∷ pieces_of counted) (second : pieces_of counted ≡ count_line count ∷ pieces_of told) (few : count ≤ kept_limit) where
  behind_two : behind_count text ≡ pieces_of told
  behind_two = ap (drop 2) first ∙ ap (drop 1) second

  pub counts : TellsCount text count
  counts = (line_stands (pieces_of text) 1 counted (count_line count) told (ap (drop 1) first) second, few)

  -- so the steps are those that the lines after these say
  steps_told : (steps : List Step) → TellsSteps (pieces_of told) count steps → TellsSteps (behind_count text) count steps
  steps_told steps h = subst (λ p. TellsSteps p count steps) (sym behind_two) h

  pub wrong_step : (fault : Fault) → (steps : List Step) × (fault ≡ Fault.History (length steps + 3)) × TellsNoMore (pieces_of told) count steps
      → IsHistoryRefusal text fault
  wrong_step fault (steps, is, h) = (length steps + 3, is, no_step {count = count} {steps = steps} (begins text counted first) counts (subst (λ p. TellsNoMore p count steps) (sym behind_two) h))

  pub wrong_end : (steps : List Step) → TellsSteps (pieces_of told) count steps → length steps ≡ count → ((next : ℕ) → ¬ TellsNext (pieces_of told) count next) → IsFirstWrongLine text (count + 3)
  wrong_end steps h all none = no_end {count = count} {steps = steps} (begins text counted first) counts (steps_told steps h) all (subst (λ p. (next : ℕ) → ¬ TellsNext p count next) (sym behind_two) none)

  next_told : (next : ℕ) → TellsNext (pieces_of told) count next → TellsNext (behind_count text) count next
  next_told next h = subst (λ p. TellsNext p count next) (sym behind_two) h

  behind_end : (rest : List ℕ) → drop (count + 1) (pieces_of told) ≡ pieces_of rest → drop (count + 3) (pieces_of text) ≡ pieces_of rest
  behind_end rest e =
      behind_both (pieces_of text) 2 (count + 1) (count + 3) (omega arith) ∙ ap (drop (count + 1)) behind_two ∙ e

  -- nothing follows the end
  pub is_told : (steps : List Step) (next : ℕ) (rest : List ℕ) → TellsSteps (pieces_of told) count steps → length steps ≡ count → TellsNext (pieces_of told) count next
      → drop (count + 1) (pieces_of told) ≡ pieces_of rest → length rest ≡ 0 → TellsHistory text (record { steps = steps; next = next })
  is_told steps next rest h all ends behind none = record {
    begins = begins text counted first;
    count = subst (TellsCount text) (sym all) counts;
    steps = subst (λ n. TellsSteps (behind_count text) n steps) (sym all) (steps_told steps h);
    next = subst (λ n. TellsNext (behind_count text) n next) (sym all) (next_told next ends);
    whole = ap (λ n. drop (n + 3) (pieces_of text)) all ∙ behind_end rest behind ∙ ap pieces_of (nil_from_length rest none);
  }

  -- something follows the end
  pub wrong_rest : (steps : List Step) (next : ℕ) (rest : List ℕ) → TellsSteps (pieces_of told) count steps → length steps ≡ count → TellsNext (pieces_of told) count next
      → drop (count + 1) (pieces_of told) ≡ pieces_of rest → 0 < length rest → IsFirstWrongLine text (count + 4)
  wrong_rest steps next rest h all ends behind some =
      more {count = count} {next = next} {steps = steps} (begins text counted first) counts (steps_told steps h) all (next_told next ends) (λ e. let none : length rest ≡ 0 = ap length (one_text rest [] (sym (behind_end rest behind) ∙ e)) in omega (arith, none, some))
