-- Records that are put into an order, one after another.
use Rattle.ghc_records.proofs.Words.{◌≡◌, ◌≢◌, ℕ, zero, suc, ◌+◌, ◌<◌, List, [], ◌∷◌, ◌++◌, length, take, get_or, sym, ap, ◌∙◌, subst, inl, inr, arith, take_more, In, in_get, in_more, AreDistinct, Record, numbers}
use Rattle.ghc_records.proofs.OrderLemmas.{number_in, numbers_append}

-- what stands at a place of distinct elements stands nowhere in front of it
pub not_again : {X : Type 0} (xs : List X) (i : ℕ) (d : X) → AreDistinct xs → i < length xs → ¬ In (get_or xs i d) (take i xs)
not_again [] i d distinct l j = absurd (omega arith)
not_again (x ∷ xs) zero d distinct l j = j
not_again (x ∷ xs) (suc i) d distinct l (inl e) = distinct.0 (subst (λ z. In z xs) e (in_get xs i d (omega arith)))
not_again (x ∷ xs) (suc i) d distinct l (inr j) = not_again xs i d distinct.1 (omega arith) j

module _ (order : List ℕ) (i : ℕ) (rs : List Record) (r : Record) (within : i < length order) (so_far : numbers rs ≡ take i order) (next : r.number ≡ get_or order i 0) where
  pub one_more : numbers (rs ++ r ∷ []) ≡ take (i + 1) order
  one_more = numbers_append rs (r ∷ []) ∙ ap (λ l. l ++ r.number ∷ []) so_far ∙ ap (λ n. take i order ++ n ∷ []) next ∙ sym (take_more order i 0 within)

  pub is_new : AreDistinct order → (s : Record) → In s rs → s.number ≢ r.number
  is_new distinct s j e = not_again order i 0 distinct within (subst (λ n. In n (take i order)) (e ∙ next) (subst (In s.number) so_far (number_in rs s j)))

-- each of them is one of those
pub still_of : (kept rs : List Record) (r : Record) → ((s : Record) → In s rs → In s kept) → In r kept → (s : Record) → In s (rs ++ r ∷ []) → In s kept
still_of kept rs r h there s i = elim (in_more rs r s i) [ inl j ↦ h s j | inr e ↦ subst (λ z. In z kept) (sym e) there ]
