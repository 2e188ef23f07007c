-- The first consequence of a step depends on it directly.
use Rattle.ghc_depend.proofs.Words.{◌≡◌, ℕ, ◌<◌, ◌≤◌, List, length, subst, inl, inr, arith, Some, slice_get, cases_lt, AreDistinct, Record, numbers, Uses, DependsOn, Follows, directly, further, IsKeptAs, IsFirstConsequence, slice_get_within}
use Rattle.ghc_depend.proofs.Finding.{same_value}
use Rattle.ghc_depend.proofs.Following.{follows_in}
use Rattle.ghc_depend.proofs.Causes.{NoneBetween, StandsAt, placed, place_at, stands_before, place_before}

module _ (rs : List Record) (distinct : AreDistinct (numbers rs)) (a : Record) (place : ℕ) (there : slice_get rs place ≡ Some a) where
  -- a step stands after each on which it depends
  low : (i j : ℕ) (c b : Record) → slice_get rs i ≡ Some c → slice_get rs j ≡ Some b → DependsOn rs b c → i < j
  low i j c b at behind d = place_before rs i j c b at behind distinct d.0

  module _ (i : ℕ) (none : NoneBetween (λ c. Uses c a) rs place i) where
    -- no consequence stands in front of the first step that uses this one
    pub not_before : {b : Record} → Follows rs a b → (j : ℕ) → slice_get rs j ≡ Some b → i ≤ j
    not_before (directly {b = b} d) j at = elim (cases_lt j i) [
      | inr h ↦ h
      | inl h ↦ absurd (none j b (low place j a b there at d) h at d.1)
    ]
    not_before (further {b = c} {c = b} f d) j at =
        let p = place_at rs c (follows_in f) in
        let h : i ≤ p.0 = not_before f p.0 p.1 in
        let l = low p.0 j c b p.1 at d in
        omega arith

    pub is_first : (b : Record) → slice_get rs i ≡ Some b → place < i → Uses b a → IsFirstConsequence rs a b
    is_first b at behind used = grind (arith, directly, stands_before, place_at, follows_in, not_before, same_value)

    none_behind : length rs ≤ i → (b : Record) → ¬ Follows rs a b
    none_behind long b f = grind (arith, place_at, follows_in, slice_get_within, not_before)

    -- nor has another record of its number a consequence
    pub none_of_it : length rs ≤ i → (n : ℕ) → StandsAt rs n place → (c b : Record) → IsKeptAs rs n c → ¬ Follows rs c b
    none_of_it long n stands c b k f = none_behind long b (subst (λ z. Follows rs z b) (same_value (placed rs n place c distinct stands k) there) f)
