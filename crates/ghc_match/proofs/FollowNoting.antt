-- Chains that are followed for what they pass.
use Rattle.ghc_match.proofs.Words.{◌≡◌, List, [], ◌∷◌, refl, sym, ap, ◌∙◌, subst, inl, inr, ◌⊎◌, ◌↔◌, IsTrue, Option, Some, None, VarName, Tree, variable, IsValue, Variables, Comes, now, on, Passes, one_inserted}
use Rattle.std.specs.FinSet as set

-- the set has x, or the chain of t passes it
abbrev pub Sees : (VarName → Option Tree) → Variables → Tree → VarName → Type 0
Sees S s t x = IsTrue (set.contains s x) ⊎ Passes S t x

pub both_ways : {A B C : Type 0} → A ↔ B → B ↔ C → A ↔ C
both_ways f g = (λ a. g.0 (f.0 a), λ c. f.1 (g.1 c))

-- a variable passes itself, and what its value passes
passes_variable : (S : VarName → Option Tree) (x y : VarName) → Passes S (variable x) y → (y ≡ x) ⊎ ((t : Tree) × (S x ≡ Some t) × Passes S t y)
passes_variable S x y p = by p.1 refl where
  by : {u : Tree} {xs : List VarName} → Comes S u xs y → u ≡ variable x → (y ≡ x) ⊎ ((t : Tree) × (S x ≡ Some t) × Passes S t y)
  by now e = inl (cc)
  by (on {x = z} {t = t} {xs = xs} b c) e = let same : z ≡ x = cc in inr (t, ap S (sym same) ∙ b, (xs, c))

-- one step along a chain
pub sees_on : (S : VarName → Option Tree) (old new : Variables) (x : VarName) (place value : Tree) → variable x ≡ place → S x ≡ Some value → new ≡ set.insert old x
    → (y : VarName) → Sees S new value y ↔ Sees S old place y
sees_on S old new x place value is b g y = subst (λ z. Sees S new value y ↔ Sees S old z y) is (
  λ s. elim s [
    | inl c ↦ elim ((one_inserted old x y).0 (subst (λ z. IsTrue (set.contains z y)) g c)) [ inl a ↦ inl a | inr e ↦ inr ([], subst (λ z. Comes S (variable z) [] y) e now) ]
    | inr p ↦ inr (x ∷ p.0, on b p.1)
  ],
  λ s. elim s [
    | inl c ↦ inl (subst (λ z. IsTrue (set.contains z y)) (sym g) ((one_inserted old x y).1 (inl c)))
    | inr p ↦ elim (passes_variable S x y p) [
      | inl e ↦ inl (subst (λ z. IsTrue (set.contains z y)) (sym g) ((one_inserted old x y).1 (inr e)))
      | inr v ↦ let both : Some v.0 ≡ Some value = sym v.1 ∙ b in let same : v.0 ≡ value = cc in inr (subst (λ z. Passes S z y) same v.2)
    ]
  ],
)

-- the end of a chain at an unbound variable
pub sees_last : (S : VarName → Option Tree) (old new : Variables) (x : VarName) (place : Tree) → variable x ≡ place → S x ≡ None → new ≡ set.insert old x
    → (y : VarName) → IsTrue (set.contains new y) ↔ Sees S old place y
sees_last S old new x place is b g y = subst (λ z. IsTrue (set.contains new y) ↔ Sees S old z y) is (
  λ c. elim ((one_inserted old x y).0 (subst (λ z. IsTrue (set.contains z y)) g c)) [ inl a ↦ inl a | inr e ↦ inr ([], subst (λ z. Comes S (variable z) [] y) e now) ],
  λ s. elim s [
    | inl c ↦ subst (λ z. IsTrue (set.contains z y)) (sym g) ((one_inserted old x y).1 (inl c))
    | inr p ↦ elim (passes_variable S x y p) [
      | inl e ↦ subst (λ z. IsTrue (set.contains z y)) (sym g) ((one_inserted old x y).1 (inr e))
      | inr v ↦ let clash : None ≡ Some v.0 = sym b ∙ v.1 in cc
    ]
  ],
)

-- and at a value
pub sees_value : (S : VarName → Option Tree) (s : Variables) (place : Tree) → IsValue place → (y : VarName) → IsTrue (set.contains s y) ↔ Sees S s place y
sees_value S s place v y = (λ c. inl c, λ h. elim h [ inl c ↦ c | inr p ↦ absurd (by p.1 v) ]) where
  by : {u : Tree} {xs : List VarName} → Comes S u xs y → ¬ IsValue u
  by now v = v
  by (on b c) v = v
