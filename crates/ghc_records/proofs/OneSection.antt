-- Pieces tell one section of items, and none where a line of it is wrong.
use Rattle.ghc_records.proofs.Words.{◌≡◌, ℕ, zero, suc, ◌<◌, ◌≤◌, cases_lt, inl, inr, List, [], ◌∷◌, ◌++◌, take, drop, length, refl, sym, ap, ◌∙◌, subst, arith, Some, slice_get, take_all, IsLineOf, IsFirstWrongOf, TellsItems, TellsNoMoreItems, TellsSection, no_count, no_item}
use Rattle.ghc_records.proofs.CutTexts.{taken_at}
use Rattle.ghc_records.proofs.OneStep.{one_line}

-- lists that agree at each place begin alike
begin_alike : {X : Type 0} (xs ys : List X) → ((i : ℕ) (x y : X) → slice_get xs i ≡ Some x → slice_get ys i ≡ Some y → x ≡ y)
    → length xs ≤ length ys → xs ≡ take (length xs) ys
begin_alike [] ys same low = refl
begin_alike (x ∷ xs) [] same low = absurd (omega (arith, low))
begin_alike (x ∷ xs) (y ∷ ys) same low =
    ap (λ z. z ∷ xs) (same 0 x y refl refl) ∙ ap (λ l. y ∷ l) (begin_alike xs ys (λ i a b e f. same (suc i) a b e f) (omega (arith, low)))

one_longer : {X : Type 0} (xs : List X) (n : ℕ) → n < length xs → (x : X) × (take (suc n) xs ≡ take n xs ++ x ∷ [])
one_longer [] n low = absurd (omega (arith, low))
one_longer (x ∷ xs) zero low = (x, refl)
one_longer (x ∷ xs) (suc n) low = let (y, e) = one_longer xs n (omega (arith, low)) in (y, ap (λ l. x ∷ l) e)

module _ {A : Type 0} (Says : List ℕ → A → Type 0) (Fit : List A → Type 0) (one : (line : List ℕ) (a b : A) → Says line a → Says line b → a ≡ b) (fewer : (n : ℕ) (items : List A) → Fit items → Fit (take n items)) where
  module _ (pieces : List (List ℕ)) where
    alike : (xs ys : List A) → TellsItems Says Fit pieces xs → TellsItems Says Fit pieces ys → length xs ≤ length ys → xs ≡ take (length xs) ys
    alike xs ys h k low =
        begin_alike xs ys
        (λ i x y e f. let s = h.each i x e in let t = k.each i y f in one t.0 x y (subst (λ l. Says l x) (one_line pieces i s.0 t.0 s.1 t.1) s.2) t.2)
        low

    pub one_list : (xs ys : List A) → TellsItems Says Fit pieces xs → TellsItems Says Fit pieces ys → length xs ≡ length ys → xs ≡ ys
    one_list xs ys h k same = alike xs ys h k (omega (arith, same)) ∙ take_all (length xs) ys (omega (arith, same))

    fewer_told : (n : ℕ) (xs : List A) → TellsItems Says Fit pieces xs → TellsItems Says Fit pieces (take n xs)
    fewer_told n xs told = record { each = λ i a e. told.each i a (taken_at n xs i a e).1; fit = fewer n xs told.fit }

    -- the pieces tell no more items than those after which they tell no further one
    pub not_longer : (count : ℕ) (stopped xs : List A) → TellsNoMoreItems Says Fit pieces count stopped → TellsItems Says Fit pieces xs → length xs ≤ length stopped
    not_longer count stopped xs h told = elim (cases_lt (length stopped) (length xs)) [
      | inl low ↦
          let k = one_longer xs (length stopped) low in
          let begins : stopped ≡ take (length stopped) xs = alike stopped xs h.0 told (omega (arith, low)) in
          absurd (h.2 k.0 (subst (TellsItems Says Fit pieces) (k.1 ∙ ap (λ l. l ++ k.0 ∷ []) (sym begins)) (fewer_told (suc (length stopped)) xs told)))
      | inr far ↦ far
    ]

  module _ (count_line : ℕ → List ℕ) (limit : ℕ) (apart : (m n : ℕ) → m ≤ limit → n ≤ limit → count_line m ≡ count_line n → m ≡ n) (pieces : List (List ℕ)) where
    one_count : (m n : ℕ) → IsLineOf pieces 0 (count_line m) → IsLineOf pieces 0 (count_line n) → m ≤ limit → n ≤ limit → m ≡ n
    one_count m n h k few low = apart m n few low (one_line pieces 0 (count_line m) (count_line n) h k)

    pub one_section : (xs ys : List A) → TellsSection Says Fit count_line limit pieces xs → TellsSection Says Fit count_line limit pieces ys → xs ≡ ys
    one_section xs ys h k = one_list (drop 1 pieces) xs ys h.told k.told (one_count (length xs) (length ys) h.count k.count h.few k.few)

    pub never_wrong : (xs : List A) (i : ℕ) → TellsSection Says Fit count_line limit pieces xs → ¬ IsFirstWrongOf Says Fit count_line limit pieces i
    never_wrong xs i h (no_count none) = none (length xs) h.few h.count
    never_wrong xs i h (no_item {count = n} {items = ys} counted few stop) =
        omega (arith, one_count (length xs) n h.count counted h.few few, not_longer (drop 1 pieces) n ys xs stop h.told, stop.1)
