-- What is read of a history: its steps, then its end, and which line is wrong first.
use Rattle.ghc_records.proofs.Words.{◌≡◌, ℕ, ◌+◌, ◌<◌, ◌≤◌, List, ◌∷◌, drop, take, length, sym, ap, ◌∙◌, subst, arith, Option, Some, IfSome, IfNone, ◌↔◌, option_map, Fault, kept_limit, Step, SaysStep, IsFirstWrongLine, IsHistoryRefusal, TellsHistory, TellsItems, TellsNext, TellsSteps, count_line, heading, pieces_of}
use Rattle.std.proofs.Common.{Bor}
use Rattle.ghc_records.specs.inner.StepNumbers.{HaveOwnNumbers}
use Rattle.ghc_records.proofs.CutLemmas.{behind_both}
use Rattle.ghc_records.proofs.StepsBelow.{AreRightUpTo, all_length, all_told, right_length, wrong_after}
use Rattle.ghc_records.proofs.TellingHistories.{bound_told, is_told, wrong_end, wrong_rest, wrong_step}
use Rattle.ghc_records.proofs.TellingSteps.{IsBelow, TellsNoOther, as_steps, below, bounded, no_more_steps}

-- the number is below the bound, if there is one
abbrev pub IsWithin : Option ℕ → Step → Type 0
IsWithin bound s = IfSome bound (λ next. s.number < next)

-- Heading and count are there; steps were read, and what is left begins with as many lines as there are more steps told, then the end.
module _ (text counted told : List ℕ) (count : ℕ) (first : pieces_of text ≡ heading ∷ pieces_of counted) (second : pieces_of counted ≡ count_line count ∷ pieces_of told) (few : count ≤ kept_limit)
    (steps : List Step) (rest : List ℕ) (more : ℕ) (end : Option (ℕ × Bor (List ℕ))) (bound : Option ℕ) (is : bound ≡ option_map (λ t. t.0) end)
    (some : IfSome end (λ t. TellsNext (pieces_of rest) more t.0)) (none : IfNone end ((next : ℕ) → ¬ TellsNext (pieces_of rest) more next))
    (right : ℕ) (up : AreRightUpTo (IsWithin bound) steps right) (said : TellsItems SaysStep HaveOwnNumbers (pieces_of told) steps) (at : drop (length steps) (pieces_of told) ≡ pieces_of rest)
    (most : length steps ≤ count) (stop : length steps < count → TellsNoOther (pieces_of told) steps) (all : length steps + more ≡ count) where
  same : drop count (pieces_of told) ≡ drop more (pieces_of rest)
  same = behind_both (pieces_of told) (length steps) more count (sym all) ∙ ap (drop more) at

  told_next : (next : ℕ) → TellsNext (pieces_of rest) more next → TellsNext (pieces_of told) count next
  told_next next ((line, others, e), from, low) = ((line, others, same ∙ e), from, low)

  left_next : (next : ℕ) → TellsNext (pieces_of told) count next → TellsNext (pieces_of rest) more next
  left_next next ((line, others, e), from, low) = ((line, others, sym same ∙ e), from, low)

  ends : (next : ℕ) → (bound ≡ Some next) ↔ TellsNext (pieces_of told) count next
  ends next = let known = bound_told (pieces_of rest) more end bound is some none next in (λ e. told_next next (known.0 e), λ t. known.1 (left_next next t))

  below_up : AreRightUpTo (IsBelow (pieces_of told) count) steps right
  below_up = record {
    most = up.most;
    holds = λ s i. below (pieces_of told) count bound ends s (up.holds s i);
    stop = λ s e low. up.stop s e (bounded (pieces_of told) count bound ends s low);
  }

  of_number : (s t : Step) → s.number ≡ t.number → IsBelow (pieces_of told) count s → IsBelow (pieces_of told) count t
  of_number s t e low next t_next = subst (λ n. n < next) e (low next t_next)

  -- a step's line is wrong
  pub step_refused : right < count → IsHistoryRefusal text (Fault.History (right + 3))
  step_refused low = wrong_step text counted told count first second few (Fault.History (right + 3)) (
    take right steps,
    ap (λ n. Fault.History (n + 3)) (sym (right_length (IsBelow (pieces_of told) count) of_number (pieces_of told) count right steps said most stop below_up)),
    no_more_steps (pieces_of told) count (take right steps) (wrong_after (IsBelow (pieces_of told) count) of_number (pieces_of told) count right steps said most stop below_up low),
  )

  -- no step's line is
  module _ (every : count ≤ right) where
    all_steps : TellsSteps (pieces_of told) count steps
    all_steps = as_steps (pieces_of told) count steps (all_told (IsBelow (pieces_of told) count) of_number (pieces_of told) count right steps said most stop below_up every)

    so_many : length steps ≡ count
    so_many = all_length (IsBelow (pieces_of told) count) of_number (pieces_of told) count right steps said most stop below_up every

    pub end_refused : ((next : ℕ) → ¬ TellsNext (pieces_of rest) more next) → IsFirstWrongLine text (count + 3)
    end_refused none_left = wrong_end text counted told count first second few steps all_steps so_many (λ next t. none_left next (left_next next t))

    module _ (next : ℕ) (behind : List ℕ) (tells : TellsNext (pieces_of rest) more next) (after : drop (more + 1) (pieces_of rest) ≡ pieces_of behind) where
      behind_told : drop (count + 1) (pieces_of told) ≡ pieces_of behind
      behind_told = behind_both (pieces_of told) (length steps) (more + 1) (count + 1) (omega (arith, all)) ∙ ap (drop (more + 1)) at ∙ after

      pub rest_refused : 0 < length behind → IsFirstWrongLine text (count + 4)
      rest_refused filled = wrong_rest text counted told count first second few steps next behind all_steps so_many (told_next next tells) behind_told filled

      pub history_told : length behind ≡ 0 → TellsHistory text (record { steps = steps; next = next })
      history_told nothing = is_told text counted told count first second few steps next behind all_steps so_many (told_next next tells) behind_told nothing
