-- Words say `--workers auto` where the next one does, or those after it.
use Rattle.ghcdb.proofs.CitedWords.{◌≡◌, ◌↔◌, ◌∙◌, ◌+◌, ◌<◌, ℕ, suc, List, ◌∷◌, length, get_or, drop, map, inl, inr, sym, ap, subst, codes, bytes_eq}
use Rattle.std.proofs.Common.{Bool, add-one, drop-cons}
use Rattle.ghcdb.specs.inner.CommandLine.{AskForAuto, SaysAuto}

-- the next of the words, and those after it
opened : {X : Type 0} (f : X → List ℕ) (xs : List X) (i : ℕ) (x : X) → i < length xs → x ≡ get_or xs i x → map f (drop i xs) ≡ f x ∷ map f (drop (i + 1) xs)
opened f xs i x low is =
    let cut : drop i xs ≡ get_or xs i x ∷ drop (suc i) xs = drop-cons xs i x low in
    let next : suc i ≡ i + 1 = sym (add-one i) in
    ap (map f) cut ∙ (ap (λ y. f y ∷ map f (drop (suc i) xs)) (sym is) ∙ ap (λ k. f x ∷ map f (drop k xs)) next)

module _ {X : Type 0} (f : X → List ℕ) (xs : List X) (i : ℕ) (x : X) (all : Type 0) (behind : Bool) (text : List ℕ) (low : i < length xs) (is : x ≡ get_or xs i x) (same : text ≡ f x) (left : all ↔ AskForAuto behind (map f (drop i xs))) where
  split : all ↔ AskForAuto behind (f x ∷ map f (drop (i + 1) xs))
  split = subst (λ ws. all ↔ AskForAuto behind ws) (opened f xs i x low is) left

  -- the next one says it
  pub said : SaysAuto behind text → all
  said s = split.1 (inl (subst (SaysAuto behind) same s))

  -- the next one does not
  pub left_to_rest : (b : Bool) → (SaysAuto behind text → ⊥) → b ≡ bytes_eq text (codes "--workers") → all ↔ AskForAuto b (map f (drop (i + 1) xs))
  left_to_rest b none e =
      let next : b ≡ bytes_eq (f x) (codes "--workers") = e ∙ ap (λ t. bytes_eq t (codes "--workers")) same in (
        λ a. elim (split.0 a) [
          | inl s ↦ absurd (none (subst (SaysAuto behind) (sym same) s))
          | inr r ↦ subst (λ c. AskForAuto c (map f (drop (i + 1) xs))) (sym next) r
        ],
        λ r. split.1 (inr (subst (λ c. AskForAuto c (map f (drop (i + 1) xs))) next r)),
      )
