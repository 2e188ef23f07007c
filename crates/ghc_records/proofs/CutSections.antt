-- Sections of a text that is cut off. It tells those in front of the cut; in the cut one, the line after the last line feed is wrong.
use Rattle.ghc_records.proofs.Words.{◌≡◌, ℕ, zero, suc, ◌+◌, ◌<◌, ◌≤◌, List, [], ◌∷◌, ◌++◌, drop, take, length, refl, sym, ap, ◌∙◌, subst, arith, length-drop, length-take-le, slice_get_within, IsFirstWrongOf, TellsItems, TellsNoMoreItems, TellsSection, no_count, no_item, push_last}
use Rattle.ghc_records.proofs.CutTexts.{line_kept, no_line_left, taken_at}

-- the lines after a place in front of the cut
pub cut_behind : (d : ℕ) (lines : List (List ℕ)) (x : List ℕ) (others : List (List ℕ)) → d ≤ length lines → drop d (lines ++ x ∷ others) ≡ drop d lines ++ x ∷ others
cut_behind zero lines x others low = refl
cut_behind (suc d) [] x others low = absurd (omega (arith, low))
cut_behind (suc d) (l ∷ lines) x others low = cut_behind d lines x others (omega (arith, low))

-- Items that go together still do without the last ones.
abbrev pub HoldsInFront : {A : Type 0} → (List A → Type 0) → Type 0
HoldsInFront {A} Fit = (n : ℕ) (items : List A) → Fit items → Fit (take n items)

module _ {A : Type 0} (Says : List ℕ → A → Type 0) (Fit : List A → Type 0) (front_fits : HoldsInFront Fit) (x last : List ℕ) (others : List (List ℕ)) where
  module _ (lines : List (List ℕ)) (items : List A) (told : TellsItems Says Fit (lines ++ x ∷ others) items) where
    -- all lines stand in front of the cut
    items_kept : length items ≤ length lines → TellsItems Says Fit (lines ++ last ∷ []) items
    items_kept low = record {
      each = λ i a e.
          let (line, stands, says) = told.each i a e in
          (line, line_kept lines x last others i line (omega (arith, low, slice_get_within items i a e)) stands, says);
      fit = told.fit;
    }

    pub first_length : length lines ≤ length items → length (take (length lines) items) ≡ length lines
    first_length low = length-take-le (length lines) items low

    -- some do, and tell the first items
    pub none_behind : length lines < length items → TellsNoMoreItems Says Fit (lines ++ last ∷ []) (length items) (take (length lines) items)
    none_behind low =
        let size = first_length (omega (arith, low)) in (
          record {
            each = λ i a e.
                let (near, at) = taken_at (length lines) items i a e in
                let (line, stands, says) = told.each i a at in
                (line, line_kept lines x last others i line near stands, says);
            fit = front_fits (length lines) items told.fit;
          },
          omega (arith, size, low),
          λ a more.
              let (line, stands, says) = more.each (length (take (length lines) items)) a (push_last (take (length lines) items) a) in
              no_line_left lines last (length (take (length lines) items)) line (omega (arith, size)) stands,
        )

  module _ (count_line : ℕ → List ℕ) (limit : ℕ) (items : List A) where
    section_kept : (lines : List (List ℕ)) → TellsSection Says Fit count_line limit (lines ++ x ∷ others) items → length items < length lines → TellsSection Says Fit count_line limit (lines ++ last ∷ []) items
    section_kept [] told low = absurd (omega (arith, low))
    section_kept (l ∷ lines) told low = record {
      count = line_kept (l ∷ lines) x last others 0 (count_line (length items)) (omega arith) told.count;
      few = told.few;
      told = items_kept lines items told.told (omega (arith, low));
    }

    section_cut : (lines : List (List ℕ)) → TellsSection Says Fit count_line limit (lines ++ x ∷ others) items → length lines ≤ length items → IsFirstWrongOf Says Fit count_line limit (lines ++ last ∷ []) (length lines)
    section_cut [] told low = no_count (λ count few. no_line_left [] last 0 (count_line count) (omega arith))
    section_cut (l ∷ lines) told low =
        let size = first_length lines items told.told (omega (arith, low)) in
        let place : length (take (length lines) items) + 1 ≡ suc (length lines) = omega (arith, size) in
        subst (IsFirstWrongOf Says Fit count_line limit (l ∷ (lines ++ last ∷ []))) place
        (no_item {count = length items} {items = take (length lines) items} (line_kept (l ∷ lines) x last others 0 (count_line (length items)) (omega arith) told.count) told.few (none_behind lines items told.told (omega (arith, low))))

    -- the section that begins after d lines
    module _ (lines : List (List ℕ)) (d : ℕ) (front text : List (List ℕ)) (front_is : front ≡ lines ++ last ∷ []) (text_is : text ≡ lines ++ x ∷ others) (told : TellsSection Says Fit count_line limit (drop d text) items) (begins : d ≤ length lines) where
      told_there : TellsSection Says Fit count_line limit (drop d lines ++ x ∷ others) items
      told_there = subst (λ p. TellsSection Says Fit count_line limit p items) (ap (drop d) text_is ∙ cut_behind d lines x others begins) told

      left : length (drop d lines) + d ≡ length lines
      left = omega (arith, length-drop d lines, begins)

      front_there : drop d lines ++ last ∷ [] ≡ drop d front
      front_there = sym (ap (drop d) front_is ∙ cut_behind d lines last [] begins)

      pub kept_section : d + length items < length lines → TellsSection Says Fit count_line limit (drop d front) items
      kept_section low = subst (λ p. TellsSection Says Fit count_line limit p items) front_there (section_kept (drop d lines) told_there (omega (arith, left, low)))

      pub cut_section : length lines ≤ d + length items → (i : ℕ) × (d + i ≡ length lines) × IsFirstWrongOf Says Fit count_line limit (drop d front) i
      cut_section low = (length (drop d lines), omega (arith, left), subst (λ p. IsFirstWrongOf Says Fit count_line limit p (length (drop d lines))) front_there (section_cut (drop d lines) told_there (omega (arith, left, low))))
