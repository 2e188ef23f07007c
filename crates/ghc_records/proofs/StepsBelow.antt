-- Steps that lines tell, up to the first whose number is too great.
use Rattle.ghc_records.proofs.Words.{◌≡◌, ℕ, ◌<◌, ◌≤◌, inl, inr, List, [], ◌∷◌, ◌++◌, take, length, subst, arith, Some, slice_get, take_all, length-take-le, In, in_last, push_last, Step, IsLineOf, SaysStep, TellsItems, TellsNoMoreItems}
use Rattle.std.proofs.lemmas.Option.{slice_get_cases}
use Rattle.ghc_records.specs.inner.StepNumbers.{HaveOwnNumbers}
use Rattle.ghc_records.proofs.CutTexts.{distinct_taken, taken_at}
use Rattle.ghc_records.proofs.OneStep.{one_line}
use Rattle.ghc_records.proofs.Saying.{one_step_number}
use Rattle.ghc_records.proofs.TellingSteps.{AreApart, TellsNoOther}

-- P holds of the first of the steps, so many as right, and not of the next one
pub record AreRightUpTo (P : Step → Type 0) (steps : List Step) (right : ℕ) : Type 0 where
  pub most : right ≤ length steps
  pub holds : (s : Step) → In s (take right steps) → P s
  pub stop : (s : Step) → slice_get steps right ≡ Some s → ¬ P s

-- P says something of the number
module _ (P : Step → Type 0) (of_number : (s t : Step) → s.number ≡ t.number → P s → P t) (pieces : List (List ℕ)) (count right : ℕ) (steps : List Step)
    (told : TellsItems SaysStep HaveOwnNumbers pieces steps) (most : length steps ≤ count) (ends : length steps < count → TellsNoOther pieces steps) (first : AreRightUpTo P steps right) where
  pub right_length : length (take right steps) ≡ right
  right_length = length-take-le right steps first.most

  right_told : TellsItems SaysStep (AreApart P) pieces (take right steps)
  right_told = record {
    each = λ i s e. let (near, at) = taken_at right steps i s e in told.each i s at;
    fit = (distinct_taken right steps told.fit, first.holds);
  }

  none_after : right < count → (s : Step) → ¬ TellsItems SaysStep (AreApart P) pieces (take right steps ++ s ∷ [])
  none_after low s more =
      let (line, stands, says) = more.each (length (take right steps)) s (push_last (take right steps) s) in
      elim (slice_get_cases steps right).1 [
        | inl (t, near, at, same) ↦
            let (other, there, other_says) = told.each right t at in
            let one = one_line pieces right line other (subst (λ n. IsLineOf pieces n line) right_length stands) there in
            first.stop t at (of_number s t (one_step_number other s t (subst (λ l. SaysStep l s) one says) other_says) (more.fit.1 s (in_last (take right steps) s)))
        | inr (far, none) ↦
            let all : take right steps ≡ steps = take_all right steps far in
            ends (omega (arith, low, far)) s (subst (λ l. TellsItems SaysStep HaveOwnNumbers pieces (l ++ s ∷ [])) all (record { each = more.each; fit = more.fit.0 }))
      ]

  pub wrong_after : right < count → TellsNoMoreItems SaysStep (AreApart P) pieces count (take right steps)
  wrong_after low = (right_told, omega (arith, right_length, low), none_after low)

  pub all_length : count ≤ right → length steps ≡ count
  all_length all = omega (arith, all, most, first.most)

  pub all_told : count ≤ right → TellsItems SaysStep (AreApart P) pieces steps
  all_told all = subst (TellsItems SaysStep (AreApart P) pieces) (take_all right steps (omega (arith, all, most))) right_told
