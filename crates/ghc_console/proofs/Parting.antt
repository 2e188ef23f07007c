-- A list of numbers goes by beside a part of it: the next of the part is passed, or the number is outside of it.
use Rattle.ghc_console.proofs.CitedWords.{◌≡◌, ◌+◌, ℕ, zero, suc, List, [], ◌∷◌, ◌++◌, drop, get_or, refl, subst, drop_more, slice_get, slice_get_within, Some, In, in_at}
use Rattle.ghc_records.specs.Orders.{Picks, take as taken, leave}
use Rattle.ghc_records.proofs.PickLemmas.{pick_last, leave_last}

-- a number of the part is the next of it
hit : {Q : ℕ → Type 0} (n : ℕ) (xs ys : List ℕ) → Picks Q (n ∷ xs) ys → Q n → (rest : List ℕ) × (ys ≡ n ∷ rest) × Picks Q xs rest
hit n xs ys (taken {ys = rest} q p) h = (rest, refl, p)
hit n xs ys (leave other p) h = absurd (other h)

-- and another is passed
miss : {Q : ℕ → Type 0} (n : ℕ) (xs ys : List ℕ) → Picks Q (n ∷ xs) ys → ¬ Q n → Picks Q xs ys
miss n xs ys (taken q p) h = absurd (h q)
miss n xs ys (leave other p) h = p

first_there : (xs : List ℕ) (i n : ℕ) (rest : List ℕ) → drop i xs ≡ n ∷ rest → slice_get xs i ≡ Some n
first_there [] zero n rest e = cc
first_there [] (suc i) n rest e = cc
first_there (x ∷ xs) zero n rest e = cc
first_there (x ∷ xs) (suc i) n rest e = first_there xs i n rest e

-- The numbers so far that are outside of the part are in `told`, and those ahead that are in it are its rest.
pub record IsParting (part before ahead : List ℕ) (next : ℕ) (told : List ℕ) : Type 0 where
  pub outside : Picks (λ n. ¬ In n part) before told
  pub inside : Picks (λ n. In n part) ahead (drop next part)

module _ (part before ahead : List ℕ) (next n : ℕ) (told : List ℕ) (h : IsParting part before (n ∷ ahead) next told) where
  pub passes_inside : slice_get part next ≡ Some n → IsParting part (before ++ n ∷ []) ahead (next + 1) told
  passes_inside there =
      let i = in_at part next n there in
      let found = hit n ahead (drop next part) h.inside i in
      let is : drop next part ≡ n ∷ found.0 = found.1 in
      let more : drop next part ≡ get_or part next 0 ∷ drop (next + 1) part = drop_more part next 0 (slice_get_within part next n there) in
      let same : found.0 ≡ drop (next + 1) part = cc in
      record {
        outside = leave_last before told n h.outside (λ other. other i);
        inside = subst (Picks (λ m. In m part) ahead) same found.2;
      }

  pub passes_outside : ¬ (slice_get part next ≡ Some n) → IsParting part (before ++ n ∷ []) ahead next (told ++ n ∷ [])
  passes_outside other =
      let apart : ¬ In n part = λ i. let found = hit n ahead (drop next part) h.inside i in other (first_there part next n found.0 found.1) in
      record { outside = pick_last before told n h.outside apart; inside = miss n ahead (drop next part) h.inside apart }
