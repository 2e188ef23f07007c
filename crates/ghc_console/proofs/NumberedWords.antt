-- Lemmas on words that name variables by numbers.
use Rattle.ghc_console.proofs.CitedWords.{◌≡◌, ◌≢◌, ℕ, ◌+◌, All, Option, Some, None, inl, inr, List, [], ◌∷◌, ◌++◌, eqb, take, drop, refl, sym, ap, ◌∙◌, slice_split-cons_yes, slice_split, numbered_of, variable_numbered, variable_of_parts, number_of}
use Rattle.ghc_console.proofs.WordLemmas.{IsOnePartOrNone, split-first, only_piece, one_part_or_none, no_number}

-- after a first bar, the parts are those of what stands there
at_bar : (numbers : List ℕ) → numbered_of (95 ∷ numbers) ≡ variable_of_parts ([] ∷ slice_split (λ b. eqb b 95) numbers)
at_bar numbers = ap variable_of_parts (slice_split-cons_yes (λ b. eqb b 95) 95 numbers refl)

-- the part before the second bar, and all after it
pub two_bars : (numbers : List ℕ) (i : ℕ) → numbers ≡ take i numbers ++ 95 ∷ drop (i + 1) numbers → All (λ b. b ≢ 95) (take i numbers)
    → numbered_of (95 ∷ numbers) ≡ variable_numbered (number_of (take i numbers)) (number_of (drop (i + 1) numbers))
two_bars numbers i e plain =
    at_bar numbers
    ∙ ap (λ l. variable_of_parts ([] ∷ slice_split (λ b. eqb b 95) l)) e
    ∙ ap (λ l. variable_of_parts ([] ∷ l)) (split-first 95 (take i numbers) (drop (i + 1) numbers) plain)
    ∙ behind (drop (i + 1) numbers) (one_part_or_none 95 refl (drop (i + 1) numbers))
  where
    nothing : (step : Option ℕ) → variable_numbered step None ≡ None
    nothing None = refl
    nothing (Some step) = refl

    behind : (place : List ℕ) → IsOnePartOrNone 95 place → variable_of_parts ([] ∷ take i numbers ∷ slice_split (λ b. eqb b 95) place) ≡ variable_numbered (number_of (take i numbers)) (number_of place)
    behind place (inl h) = ap (λ l. variable_of_parts ([] ∷ take i numbers ∷ l)) h
    behind place (inr h) =
        ap (λ l. variable_of_parts ([] ∷ take i numbers ∷ l)) h.3 ∙ sym (nothing (number_of (take i numbers))) ∙ ap (variable_numbered (number_of (take i numbers))) (sym (no_number place h.4))

-- without a second bar there is no variable
pub one_bar : (numbers : List ℕ) → All (λ b. b ≢ 95) numbers → numbered_of (95 ∷ numbers) ≡ None
one_bar numbers plain = at_bar numbers ∙ ap (λ l. variable_of_parts ([] ∷ l)) (only_piece 95 numbers plain)
