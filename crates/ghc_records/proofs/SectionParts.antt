-- Sections of a text, put together from the line that tells how many items there are and the lines of these.
use Rattle.ghc_records.proofs.Words.{◌≡◌, ℕ, ◌+◌, ◌≤◌, ◌⊎◌, inl, inr, List, ◌∷◌, drop, length, sym, ap, ◌∙◌, subst, arith, drop-drop, Fault, IsLineOf, pieces_of, IsFirstWrongOf, TellsItems, TellsNoMoreItems, TellsSection, no_count, no_item}
use Rattle.ghc_records.proofs.CutLemmas.{some_first, some_piece}

-- the first line of pieces that others follow
pub first_stands : (pieces : List (List ℕ)) (line told : List ℕ) → pieces ≡ line ∷ pieces_of told → IsLineOf pieces 0 line
first_stands pieces line told e = let k = some_first (pieces_of told) (some_piece 10 told) in (k.0, k.1, e ∙ ap (λ l. line ∷ l) k.2)

module _ {A : Type 0} (Says : List ℕ → A → Type 0) (Fit : List A → Type 0) (count_line : ℕ → List ℕ) (limit : ℕ) (pieces : List (List ℕ)) (n : ℕ) (told : List ℕ) (counted : pieces ≡ count_line n ∷ pieces_of told) (few : n ≤ limit) where
  behind_one : pieces_of told ≡ drop 1 pieces
  behind_one = sym (ap (drop 1) counted)

  pub section_told : (items : List A) → TellsItems Says Fit (pieces_of told) items → length items ≡ n → TellsSection Says Fit count_line limit pieces items
  section_told items says all = record {
    count = subst (λ m. IsLineOf pieces 0 (count_line m)) (sym all) (first_stands pieces (count_line n) told counted);
    few = omega (arith, few, all);
    told = subst (λ p. TellsItems Says Fit p items) behind_one says;
  }

  pub section_wrong : (items : List A) → TellsNoMoreItems Says Fit (pieces_of told) n items → IsFirstWrongOf Says Fit count_line limit pieces (length items + 1)
  section_wrong items none = no_item {count = n} {items = items} (first_stands pieces (count_line n) told counted) few (subst (λ p. TellsNoMoreItems Says Fit p n items) behind_one none)

  pub section_rest : (items : List A) (rest : List ℕ) → length items ≡ n → drop n (pieces_of told) ≡ pieces_of rest → drop (length items + 1) pieces ≡ pieces_of rest
  section_rest items rest all e =
      let places : length items + 1 ≡ 1 + n = omega (arith, all) in
      ap (λ m. drop m pieces) places ∙ sym (drop-drop n 1 pieces) ∙ ap (drop n) (sym behind_one) ∙ e

  -- .. with the number of the line
  pub wrong_line : (line first : ℕ) (fault : Fault) → first ≡ line + 1 → (fault ≡ Fault.Memory) ⊎ ((items : List A) × (fault ≡ Fault.History (first + length items)) × TellsNoMoreItems Says Fit (pieces_of told) n items)
      → (fault ≡ Fault.Memory) ⊎ ((i : ℕ) × (fault ≡ Fault.History (line + i)) × IsFirstWrongOf Says Fit count_line limit pieces i)
  wrong_line line first fault is (inl memory) = inl memory
  wrong_line line first fault is (inr wrong) =
      let number : first + length wrong.0 ≡ line + (length wrong.0 + 1) = omega (arith, is) in
      inr (length wrong.0 + 1, wrong.1 ∙ ap Fault.History number, section_wrong wrong.0 wrong.2)

-- no line that tells how many there are
pub wrong_first : {A : Type 0} (Says : List ℕ → A → Type 0) (Fit : List A → Type 0) (count_line : ℕ → List ℕ) (limit : ℕ) (pieces : List (List ℕ)) (line : ℕ) → ((n : ℕ) → n ≤ limit → ¬ IsLineOf pieces 0 (count_line n))
    → (Fault.History line ≡ Fault.Memory) ⊎ ((i : ℕ) × (Fault.History line ≡ Fault.History (line + i)) × IsFirstWrongOf Says Fit count_line limit pieces i)
wrong_first Says Fit count_line limit pieces line none = let same : line ≡ line + 0 = omega arith in inr (0, ap Fault.History same, no_count none)
