-- The variables that stand first in a list, and those of goals.
use Rattle.ghc_records.proofs.Words.{◌≡◌, true, false, List, [], ◌∷◌, sym, ◌∙◌, subst, inl, inr, list_any, eq_by_cmp, VarName, Goal, In, name_cmp, in_any, in_left, in_right, variables_of_goal, firsts_have}
use Rattle.ghc_flat.specs.Variables.{variables_of_goals, firsts}

-- a variable that is not seen before is among the first ones
pub first_in : (seen xs : List VarName) (z : VarName) → In z xs → list_any (eq_by_cmp name_cmp z) seen ≡ false → In z (firsts seen xs)
first_in seen xs z i n = elim (firsts_have seen xs z i) [ inl j ↦ absurd (let clash : false ≡ true = sym n ∙ in_any z seen j in cc) | inr j ↦ j ]

pub of_goals : (gs : List Goal) (g : Goal) (z : VarName) → In g gs → In z (variables_of_goal g) → In z (variables_of_goals gs)
of_goals [] g z i j = absurd i
of_goals (h ∷ gs) g z (inl e) j = in_left (variables_of_goal h) (variables_of_goals gs) z (subst (λ w. In z (variables_of_goal w)) e j)
of_goals (h ∷ gs) g z (inr i) j = in_right (variables_of_goal h) (variables_of_goals gs) z (of_goals gs g z i j)
