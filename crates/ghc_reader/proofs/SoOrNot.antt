-- Facts that are so or not.
use Rattle.ghc_reader.proofs.Words.{◌≡◌, ◌⊎◌, ℕ, ◌<◌, Bool, true, List, inl, inr, bytes_eq, bytes_eq-Decides, arith, cases_lt}

abbrev pub IsSoOrNot : Type 0 → Type 0
IsSoOrNot P = P ⊎ (¬ P)

pub true_or_not : (b : Bool) → IsSoOrNot (b ≡ true)
true_or_not b = grind arith

pub both_or_not : (P Q : Type 0) → IsSoOrNot P → IsSoOrNot Q → IsSoOrNot (P × Q)
both_or_not P Q p q = grind arith

pub one_or_not : (P Q : Type 0) → IsSoOrNot P → IsSoOrNot Q → IsSoOrNot (P ⊎ Q)
one_or_not P Q p q = grind arith

pub not_or_so : (P : Type 0) → IsSoOrNot P → IsSoOrNot (¬ P)
not_or_so P p = grind arith

pub same_or_not : (xs ys : List ℕ) → IsSoOrNot (xs ≡ ys)
same_or_not xs ys = elim (true_or_not (bytes_eq xs ys)) [
  | inl same ↦ inl ((bytes_eq-Decides xs ys).0 same)
  | inr other ↦ inr (λ e. other ((bytes_eq-Decides xs ys).1 e))
]

pub below_or_not : (P : Type 0) (a b : ℕ) → (a < b → P) → (P → a < b) → IsSoOrNot P
below_or_not P a b to from = elim (cases_lt a b) [ inl below ↦ inl (to below) | inr above ↦ inr (λ p. let less = from p in omega arith) ]
