-- Written sections of a text: a line that tells how many items there are, a line for each, and other lines after these.
use Rattle.ghc_records.proofs.Words.{◌≡◌, ℕ, zero, suc, ◌+◌, ◌≤◌, List, [], ◌∷◌, ◌++◌, drop, length, map, refl, sym, ap, ◌∙◌, subst, arith, inl, inr, Some, slice_get, AllByRecursion, In, in_at, IsLineOf, TellsSection}
use Rattle.ghc_records.proofs.PlainTexts.{HasNoFeed}

module _ {A : Type 0} (f : A → List ℕ) where
  -- some line comes first
  pub front_of : (items : List A) (next : List ℕ) (more : List (List ℕ)) → (line : List ℕ) × (lines : List (List ℕ)) × (map f items ++ next ∷ more ≡ line ∷ lines)
  front_of [] next more = (next, more, refl)
  front_of (a ∷ items) next more = (f a, map f items ++ next ∷ more, refl)

  -- the line of an item
  pub item_there : (items : List A) (i : ℕ) (a : A) (next : List ℕ) (more : List (List ℕ)) → slice_get items i ≡ Some a → IsLineOf (map f items ++ next ∷ more) i (f a)
  item_there [] i a next more e = cc
  item_there (b ∷ items) zero a next more e = let same : b ≡ a = cc in let k = front_of items next more in (k.0, k.1, λ j. f (same j) ∷ k.2 j)
  item_there (b ∷ items) (suc i) a next more e = item_there items i a next more e

  -- what follows the items
  pub behind_items : (items : List A) (behind : List (List ℕ)) → drop (length items) (map f items ++ behind) ≡ behind
  behind_items [] behind = refl
  behind_items (a ∷ items) behind = behind_items items behind

  -- .. and the section
  pub behind_section : (line : List ℕ) (items : List A) (behind pieces : List (List ℕ)) → pieces ≡ line ∷ (map f items ++ behind) → drop (length items + 1) pieces ≡ behind
  behind_section line items behind pieces e =
      let places : length items + 1 ≡ suc (length items) = omega arith in
      ap (λ n. drop n pieces) places ∙ ap (drop (suc (length items))) e ∙ behind_items items behind

  -- no line feed stands in the lines
  pub items_plain : (items : List A) (behind : List (List ℕ)) → ((a : A) → In a items → HasNoFeed (f a)) → AllByRecursion HasNoFeed behind → AllByRecursion HasNoFeed (map f items ++ behind)
  items_plain [] behind each rest = rest
  items_plain (a ∷ items) behind each rest = (each a (inl refl), items_plain items behind (λ b i. each b (inr i)) rest)

  -- where each line says its item, the text tells the section
  pub section_written : (Says : List ℕ → A → Type 0) (Fit : List A → Type 0) (count_line : ℕ → List ℕ) (limit : ℕ) (items : List A) (next : List ℕ) (more pieces : List (List ℕ))
      → pieces ≡ count_line (length items) ∷ (map f items ++ next ∷ more) → length items ≤ limit → ((a : A) → In a items → Says (f a) a) → Fit items → TellsSection Says Fit count_line limit pieces items
  section_written Says Fit count_line limit items next more pieces e few says fit =
      let k = front_of items next more in
      record {
        count = (k.0, k.1, e ∙ ap (λ l. count_line (length items) ∷ l) k.2);
        few = few;
        told = record { each = λ i a at. (f a, subst (λ p. IsLineOf p i (f a)) (sym (ap (drop 1) e)) (item_there items i a next more at), says a (in_at items i a at)); fit = fit };
      }
