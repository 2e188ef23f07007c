-- The step that made a thing, by its number.
use Rattle.ghc_records.proofs.Words.{◌≡◌, ℕ, List, sym, ap, ◌∙◌, subst, ◌↔◌, Some, None, In, AreDistinct, Record, numbers}
use Rattle.ghc_records.proofs.OrderLemmas.{record_once}

-- a record makes the thing only where its number is that of the step
module _ (rs : List Record) (Makes : Record → Type 0) (step : ℕ) (by_number : (a : Record) → Makes a → step ≡ a.number) where
  abbrev IsMaker : ℕ → Type 0
  IsMaker m = (a : Record) × In a rs × (a.number ≡ m) × Makes a

  pub none_made : ((a : Record) → In a rs → a.number ≡ step → ¬ Makes a) → (m : ℕ) → (None ≡ Some m) ↔ IsMaker m
  none_made h m = (λ q. cc, λ a. absurd (h a.0 a.1 (sym (by_number a.0 a.3)) a.3))

  pub one_made : (maker : Record) → In maker rs → Makes maker → (m : ℕ) → (Some step ≡ Some m) ↔ IsMaker m
  one_made maker i makes m = (
    λ q. let same : step ≡ m = cc in (maker, i, sym (by_number maker makes) ∙ same, makes),
    λ a. ap Some (by_number a.0 a.3 ∙ a.2),
  )

  -- where the one record of the number did not make it
  pub not_made : (maker : Record) → AreDistinct (numbers rs) → In maker rs → maker.number ≡ step → ¬ Makes maker → (m : ℕ) → (None ≡ Some m) ↔ IsMaker m
  not_made maker d i e not = none_made (λ a j f makes. not (subst Makes (record_once rs a maker d j i (f ∙ sym e)) makes))
