-- In an acyclic finite store each expression has a value.
use Rattle.ghc_match.proofs.Words.{◌≡◌, ℤ, pos, List, refl, subst, inl, inr, FitsSigned, ◌+ℤ◌, ◌-ℤ◌, ◌*ℤ◌, int_div, int_rem, w64, int_wrap, int_wrap_fits, SFits-int_wrap, coded_ℤ, VarName, Operator, Add, Subtract, Multiply, Divide, Modulo, Tree, variable, integer, node, Expression, leaf, operation, value_at, Decided, same_decided, leaf_variables, EndsIn, Computes, Number, of_integer, of_variable, computed, Wants, number, bad, EachExpressionHasAValue}
use Rattle.ghc_match.specs.Value.{waits}
use Rattle.ghc_match.proofs.Values.{ends_once, sides, variable_is, no_structure, integer_is}
use Rattle.ghc_match.proofs.Chains.{chains}
use Rattle.ghc_match.proofs.Listings.{Listing, none, one, restated, some, over, through, the_variable, the_integer}
use Rattle.ghc_match.proofs.SetsOf.{listed_set}

fits_decided : (z : ℤ) → Decided (FitsSigned w64 z)
fits_decided z = elim (same_decided coded_ℤ (int_wrap w64 z) z) [
  | inl e ↦ inl (subst (FitsSigned w64) e (SFits-int_wrap w64 z))
  | inr n ↦ inr (λ f. n (int_wrap_fits w64 z f))
]

-- what the operator makes of two integers, where that can be r alone
of_result : (o : Operator) (x y r : ℤ) → (FitsSigned w64 r → Computes o x y r) → ((z : ℤ) → Computes o x y z → (z ≡ r) × FitsSigned w64 z) → Listing (Computes o x y)
of_result o x y r f g = elim (fits_decided r) [
  | inl h ↦ one r (f h) (λ z c. (g z c).0)
  | inr n ↦ none (λ z c. let b = g z c in n (subst (FitsSigned w64) b.0 b.1))
]

results : (o : Operator) (x y : ℤ) → Listing (Computes o x y)
results Add x y = of_result Add x y (x +ℤ y) (λ h. (refl, h)) (λ z c. (c.0, c.1))
results Subtract x y = of_result Subtract x y (x -ℤ y) (λ h. (refl, h)) (λ z c. (c.0, c.1))
results Multiply x y = of_result Multiply x y (x *ℤ y) (λ h. (refl, h)) (λ z c. (c.0, c.1))
results Divide x y = elim (same_decided coded_ℤ y (pos 0)) [
  | inl e ↦ none (λ z c. c.0 e)
  | inr n ↦ of_result Divide x y (int_div x y) (λ h. (n, refl, h)) (λ z c. (c.1, c.2))
]
results Modulo x y = elim (same_decided coded_ℤ y (pos 0)) [
  | inl e ↦ none (λ z c. c.0 e)
  | inr n ↦ of_result Modulo x y (int_rem x y) (λ h. (n, refl, h)) (λ z c. (c.1, c.2))
]

-- where the ends of each variable are listed, so are the values of each expression, and what it waits for
module _ (E : VarName → Tree → Type 0) (ends : (x : VarName) → Listing (E x)) where
  pub wanted : (ys : List VarName) → Listing (Wants E ys)
  wanted ys = over ys (λ y x. E y (variable x)) (λ y i.
      restated (λ x h. subst (E y) h.2 h.1) (λ x l. (variable x, l, refl)) (through (λ e x. e ≡ variable x) (ends y) the_variable))

  pub numbers : (a : Expression) → Listing (Number E a)
  numbers (leaf (integer k)) = one k of_integer (λ j n. integer_is n)
  numbers (leaf (variable x)) =
      restated (λ k h. of_variable (subst (E x) h.2 h.1)) (λ k n. (integer k, variable_is n, refl)) (through (λ e k. e ≡ integer k) (ends x) the_integer)
  numbers (leaf (node f us)) = none (λ k n. no_structure n)
  numbers (operation o a b) =
      restated (λ z h. computed h.1 h.2.1 h.2.2) (λ z n. let t = sides n in (t.0, t.2, (t.1, t.3, t.4)))
      (through (λ x z. (y : ℤ) × Number E b y × Computes o x y z) (numbers a) (λ x. through (λ y z. Computes o x y z) (numbers b) (λ y. results o x y)))

pub each_value : EachExpressionHasAValue
each_value s a acyclic =
    let S = value_at s in
    let ends : (x : VarName) → Listing (EndsIn S x) = λ x. let c = chains s acyclic (variable x) in one c.1 (c.0, c.2) (λ e l. ends_once x e c.1 l (c.0, c.2)) in
    let waited = wanted (EndsIn S) ends (leaf_variables a) in
    elim (some waited) [
      | inl w ↦ let xs = listed_set waited in (waits xs.0, (xs.1, w))
      | inr f ↦ elim (some (numbers (EndsIn S) ends a)) [ inl n ↦ (number n.0, n.1) | inr n ↦ (bad, ((λ x w. f (x, w)), λ k m. n (k, m))) ]
    ]
