-- The fresh variables of a clause, and their places.
use Rattle.ghc_fire.proofs.Words.{◌≡◌, ℕ, ◌+◌, sym, ap, ◌∙◌, inl, inr, arith, Some, None, slice_get, VarName, In, Tree, StoreValue, value_at, Clause, asked, variables_of_list, fresh_variables, place_in, AreBehindHead}
use Rattle.ghc_flat.specs.Variables.{variables_of_goals}
use Rattle.ghc_fire.proofs.Origins.{firsts_have, place_got}

-- each variable of the clause's head stands for something
abbrev pub StandAll : Clause → StoreValue → Type 0
StandAll c theta = (y : VarName) → In y (variables_of_list c.head) → (t : Tree) × (value_at theta y ≡ Some t)

-- the fresh variables have the places after those of the head.
abbrev pub AreNumberedBehind : ℕ → Clause → Type 0
AreNumberedBehind h c = (i : ℕ) (x : VarName) → slice_get (fresh_variables c) i ≡ Some x → x ≡ asked (h + i + 1)

module _ (h : ℕ) (c : Clause) (behind : AreNumberedBehind h c) where
  fresh_place : (y : VarName) → In y (fresh_variables c) → y.place ≡ h + place_in (fresh_variables c) y
  fresh_place y i =
      let p = place_got (fresh_variables c) y i in
      let place : y.place ≡ h + p.0 + 1 = ap (λ (z : VarName). z.place) (behind p.0 y p.2) in
      omega (arith, place, p.1)

  -- where each variable of the head stands for something, the others come after them
  pub behind_head : (theta : StoreValue) → StandAll c theta → AreBehindHead h c theta
  behind_head theta stand y i none =
      elim (firsts_have (variables_of_list c.head) (variables_of_goals c.body) y i) [
        | inl j ↦ let t = stand y j in let clash : None ≡ Some t.0 = sym none ∙ t.1 in cc
        | inr j ↦ fresh_place y j
      ]
