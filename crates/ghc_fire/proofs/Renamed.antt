-- Replacing by two functions that agree on the variables that stand there.
use Rattle.ghc_fire.proofs.Words.{◌≡◌, ℕ, ◌-◌, List, [], ◌∷◌, ◌++◌, map, refl, ap, inl, arith, Some, None, unwrap_or, VarName, Tree, variable, integer, node, Trees, none, more, Expression, leaf, operation, Goal, call, unify, assign, stream, In, StoreValue, value_at, variables, variables_of_all, variables_of_expression, variables_of_goal, variables_of_goals, in_left, in_right, Clause, fresh_variables, replace, replace_all, replace_in_expression, replace_in_goal, made, place_in, becomes, body_made, AreBehindHead, renamed}
use Rattle.ghc_term.specs.Variables.{variables_of_list}

module _ (s r : VarName → Tree) where
  abbrev pub Agree : List VarName → Type 0
  Agree xs = (y : VarName) → In y xs → s y ≡ r y

  front : (xs ys : List VarName) → Agree (xs ++ ys) → Agree xs
  front xs ys h y i = h y (in_left xs ys y i)

  rest : (xs ys : List VarName) → Agree (xs ++ ys) → Agree ys
  rest xs ys h y i = h y (in_right xs ys y i)

  mutual
    in_tree : (t : Tree) → Agree (variables t) → replace s t ≡ replace r t
    in_tree (variable x) h = h x (inl refl)
    in_tree (integer k) h = refl
    in_tree (node f ts) h = ap (node f) (in_all ts h)

    in_all : (ts : Trees) → Agree (variables_of_all ts) → replace_all s ts ≡ replace_all r ts
    in_all none h = refl
    in_all (more t ts) h = λ i. more (in_tree t (front (variables t) (variables_of_all ts) h) i) (in_all ts (rest (variables t) (variables_of_all ts) h) i)

  in_list : (ts : List Tree) → Agree (variables_of_list ts) → map (replace s) ts ≡ map (replace r) ts
  in_list [] h = refl
  in_list (t ∷ ts) h = λ i. in_tree t (front (variables t) (variables_of_list ts) h) i ∷ in_list ts (rest (variables t) (variables_of_list ts) h) i

  in_expression : (a : Expression) → Agree (variables_of_expression a) → replace_in_expression s a ≡ replace_in_expression r a
  in_expression (leaf t) h = ap leaf (in_tree t h)
  in_expression (operation o a b) h =
      λ i. operation o (in_expression a (front (variables_of_expression a) (variables_of_expression b) h) i) (in_expression b (rest (variables_of_expression a) (variables_of_expression b) h) i)

  in_goal : (g : Goal) → Agree (variables_of_goal g) → replace_in_goal s g ≡ replace_in_goal r g
  in_goal (call f ts) h = ap (call f) (in_list ts h)
  in_goal (unify t u) h = λ i. unify (in_tree t (front (variables t) (variables u) h) i) (in_tree u (rest (variables t) (variables u) h) i)
  in_goal (assign t a) h = λ i. assign (in_tree t (front (variables t) (variables_of_expression a) h) i) (in_expression a (rest (variables t) (variables_of_expression a) h) i)
  in_goal (stream k x) h = refl

  pub in_goals : (gs : List Goal) → Agree (variables_of_goals gs) → map (replace_in_goal s) gs ≡ map (replace_in_goal r) gs
  in_goals [] h = refl
  in_goals (g ∷ gs) h = λ i. in_goal g (front (variables_of_goal g) (variables_of_goals gs) h) i ∷ in_goals gs (rest (variables_of_goal g) (variables_of_goals gs) h) i

becomes_so : (h : ℕ) (c : Clause) (theta : StoreValue) (n : ℕ) → AreBehindHead h c theta → (y : VarName) → In y (variables_of_goals c.body) → renamed h theta n y ≡ becomes c theta n y
becomes_so h c theta n behind y i =
    elim (value_at theta y) as (λ o. value_at theta y ≡ o → unwrap_or o (variable (made n (y.place - h))) ≡ unwrap_or o (variable (made n (place_in (fresh_variables c) y)))) [
      | None ↦ λ e. let places : y.place - h ≡ place_in (fresh_variables c) y = omega (arith, behind y i e) in ap (λ k. variable (made n k)) places
      | Some t ↦ λ e. refl
    ] refl

-- the body with its variables renamed is what the body makes
pub renamed_body : (h : ℕ) (c : Clause) (theta : StoreValue) (n : ℕ) → AreBehindHead h c theta → map (replace_in_goal (renamed h theta n)) c.body ≡ body_made c theta n
renamed_body h c theta n behind = in_goals (renamed h theta n) (becomes c theta n) c.body (becomes_so h c theta n behind)
