-- What is known where a step is not redone.
use Rattle.ghc_core.proofs.Words.{◌≡◌, ℕ, refl, subst, Some, None, Result, IfOk, Fault, Record, World, IsKnown, RedoFails, LacksGoal, arith, sym, ◌∙◌, inl, inr}
use Rattle.std.specs.FinMap as finite
use Rattle.ghc_core.proofs.Refusing.{value_once}

-- what is known of an answer leads to more about it
pub if_ok : {T E : Type 0} (r : Result T E) {P Q : T → Type 0} → IfOk r P → ((t : T) → P t → Q t) → IfOk r Q
if_ok r p f = grind arith

-- what a refusal says
pub said_not_shelved : {w : World} {n : ℕ} {f : Fault} → RedoFails w n f → f ≡ Fault.NotShelved → finite.get w.shelf n ≡ None
said_not_shelved p same = grind arith

pub said_no_goal : {w : World} {n : ℕ} {f : Fault} → RedoFails w n f → f ≡ Fault.NoGoal → (r : Record) × (finite.get w.shelf n ≡ Some r) × LacksGoal w.state.goals r
said_no_goal p same = elim p.first [
  | inl (e, _) ↦ let clash : Fault.NotShelved ≡ Fault.NoGoal = sym e ∙ same in cc
  | inr (_, inl (_, lacks)) ↦ lacks
  | inr (_, inr (_, inl (e, _))) ↦ let clash : Fault.NoVariable ≡ Fault.NoGoal = sym e ∙ same in cc
  | inr (_, inr (_, inr (_, inl (e, _)))) ↦ let clash : Fault.Changed ≡ Fault.NoGoal = sym e ∙ same in cc
  | inr (_, inr (_, inr (_, inr (_, (e, _))))) ↦ let clash : Fault.Full ≡ Fault.NoGoal = sym e ∙ same in cc
]

pub said_no_variable : {w : World} {n : ℕ} {f : Fault} → RedoFails w n f → f ≡ Fault.NoVariable → (r : Record) × (finite.get w.shelf n ≡ Some r) × (¬ IsKnown w r)
said_no_variable p same = elim p.first [
  | inl (e, _) ↦ let clash : Fault.NotShelved ≡ Fault.NoVariable = sym e ∙ same in cc
  | inr (_, inl (e, _)) ↦ let clash : Fault.NoGoal ≡ Fault.NoVariable = sym e ∙ same in cc
  | inr (_, inr (_, inl (_, unknown))) ↦ unknown
  | inr (_, inr (_, inr (_, inl (e, _)))) ↦ let clash : Fault.Changed ≡ Fault.NoVariable = sym e ∙ same in cc
  | inr (_, inr (_, inr (_, inr (_, (e, _))))) ↦ let clash : Fault.Full ≡ Fault.NoVariable = sym e ∙ same in cc
]

-- Where what the step names is known, it is not refused for that.
pub known_not_refused : {w : World} {n : ℕ} (r : Record) → finite.get w.shelf n ≡ Some r → IsKnown w r → ¬ RedoFails w n Fault.NoVariable
known_not_refused {w} r on known fails = let said = said_no_variable fails refl in said.2 (subst (IsKnown w) (value_once on said.1) known)
