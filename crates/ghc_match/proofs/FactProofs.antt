-- The facts, place by place.
use Rattle.ghc_match.proofs.Words.{[], ◌∷◌, refl, inl, inr, codes, atom, at_free, asked, v, store, both_atoms, here, StructureIsNoNumber, WaitsOnTwo}
use Rattle.ghc_match.proofs.OutcomesByPlaces.{waits_by}
use Rattle.ghc_match.proofs.Values.{sides, no_structure}

pub structure_is_no_number : StructureIsNoNumber
structure_is_no_number = ((λ x w. w.1), λ k n. no_structure (sides n).2)

pub waits_on_two : WaitsOnTwo
waits_on_two = waits_by both_atoms (v 1 ∷ v 2 ∷ []) (store []) (asked 1 ∷ asked 2 ∷ []) (asked 1) (asked 2 ∷ []) (
  (λ _. (v 1, asked 1 ∷ [], v 1, here refl, at_free refl, inr (asked 1, refl, inl refl), (inl refl, tt))),
  ((λ _. (v 2, asked 2 ∷ [], v 2, here refl, at_free refl, inr (asked 2, refl, inr (inl refl)), (inr (inl refl), tt))), tt),
) (
  (0 ∷ [], atom (codes "a"), v 1, asked 1 ∷ [], (here refl, tt), here refl, at_free refl),
  ((1 ∷ [], atom (codes "b"), v 2, asked 2 ∷ [], (here refl, tt), here refl, at_free refl), tt),
)
