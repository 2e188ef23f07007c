-- What tests say, one after another.
use Rattle.ghc_match.proofs.Words.{◌≡◌, Bool, true, false, List, [], ◌∷◌, ◌++◌, refl, sym, subst, inl, inr, ◌⊎◌, ◌↔◌, IsTrue, VarName, Tree, integer, node, IsValue, in_left, in_right, in_more, Test, IsAtom, IsList, IsSaid, OneSaysNo, Says, Yes, No, Waits}
use Rattle.ghc_match.specs.Match.{IsInteger}

-- only values are integers, atoms or lists
pub integer_value : (e : Tree) → IsInteger e → IsValue e
integer_value (integer k) i = tt
integer_value _ i = absurd i

pub atom_value : (e : Tree) → IsAtom e → IsValue e
atom_value (node f ts) i = tt
atom_value _ i = absurd i

pub list_value : (e : Tree) → IsList e → IsValue e
list_value (node f ts) i = tt
list_value _ i = absurd i

module _ (P T : Tree → Type 0) where
  -- a test of the value that a variable ends in
  pub value_holds : (b : Bool) (v : Tree) → ((e f : Tree) → P e → P f → e ≡ f) → P v → IsTrue b ↔ T v → IsTrue b ↔ ((e : Tree) × P e × T e)
  value_holds b v once p h = (λ i. (v, p, h.0 i), λ w. h.1 (subst T (once w.0 v w.1 p) w.2))

  -- and where there is none
  pub none_holds : ((e : Tree) → T e → IsValue e) → ((e : Tree) → P e → ¬ IsValue e) → IsTrue false ↔ ((e : Tree) × P e × T e)
  none_holds v n = (λ i. absurd (let clash : false ≡ true = i in cc), λ w. absurd (n w.0 w.1 (v w.0 w.2)))

module _ (E : VarName → Tree → Type 0) where
  -- a test more that says no
  pub no_more_no : (gs : List Test) (g : Test) → IsSaid E g No → OneSaysNo E (gs ++ g ∷ []) true
  no_more_no gs g h = (g, in_right gs (g ∷ []) g (inl refl), h)

  -- and one that does not
  pub no_more_other : (b : Bool) (gs : List Test) (g : Test) (s : Says) → OneSaysNo E gs b → IsSaid E g s → ¬ (s ≡ No) → OneSaysNo E (gs ++ g ∷ []) b
  no_more_other true gs g s h i n = (h.0, in_left gs (g ∷ []) h.0 h.1, h.2)
  no_more_other false gs g s h i n = λ k j. elim (in_more gs g k j) [
    | inl a ↦ h k a
    | inr e ↦ subst (λ z. IsSaid E z Waits ⊎ IsSaid E z Yes) (sym e) (by s i n)
  ] where
    by : (s : Says) → IsSaid E g s → ¬ (s ≡ No) → IsSaid E g Waits ⊎ IsSaid E g Yes
    by Yes i n = inr i
    by No i n = absurd (n refl)
    by Waits i n = inl i
