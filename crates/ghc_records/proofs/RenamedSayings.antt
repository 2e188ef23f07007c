-- Goals that say parse trees still say them where their variables are renamed and called otherwise.
use Rattle.ghc_records.proofs.Words.{◌≡◌, ℕ, List, [], ◌∷◌, ◌++◌, map, refl, ap, ◌∙◌, subst, inl, VarName, In, node, trees, Expression, variables, variables_of_list, variables_of_expression, variables_of_goals, in_left, in_right, structure, empty, cell, some, Value, number, named, product, sum, SaysBy, SaysAllBy, SaysValueBy, SaysGoalBy, Each, variables_of_trees, replace, replace_all, replace_in_expression, replace_in_goal, by}
use Rattle.ghc_term.specs.Tree as term
use Rattle.ghc_term.specs.Goal as goal
use Rattle.ghc_term.specs.Variables.{variables_of_goal}
use Rattle.ghc_reader.specs.Source.{Tree, Trees, variable, integer, none, Goal, call, unify, assign}

replaced_trees : (s : VarName → term.Tree) (us : List term.Tree) → replace_all s (trees us) ≡ trees (map (replace s) us)
replaced_trees s [] = refl
replaced_trees s (u ∷ us) = ap (term.more (replace s u)) (replaced_trees s us)

-- D v (f x) where C v x: the variable x is called v in one way, and what it becomes in the other.
module _ (C D : List ℕ → VarName → Type 0) (f : VarName → VarName) where
  abbrev Carries : List VarName → Type 0
  Carries xs = (v : List ℕ) (x : VarName) → In x xs → C v x → D v (f x)

  front : (xs ys : List VarName) → Carries (xs ++ ys) → Carries xs
  front xs ys h v x i = h v x (in_left xs ys x i)

  behind : (xs ys : List VarName) → Carries (xs ++ ys) → Carries ys
  behind xs ys h v x i = h v x (in_right xs ys x i)

  mutual
    term_says : (t : Tree) (u : term.Tree) → Carries (variables u) → SaysBy C t u → SaysBy D t (replace (by f) u)
    term_says (variable v) u k h =
        let here : Carries (h.0 ∷ []) = subst (λ w. Carries (variables w)) h.1 k in
        (f h.0, ap (replace (by f)) h.1, here v h.0 (inl refl) h.2)
    term_says (integer n) u k h = ap (replace (by f)) h
    term_says (structure g ts) u k h =
        let inner : Carries (variables_of_list h.0) = subst Carries (ap variables h.1 ∙ variables_of_trees h.0) k in
        (map (replace (by f)) h.0, ap (replace (by f)) h.1 ∙ ap (node g) (replaced_trees (by f) h.0), list_says ts h.0 inner h.2)
    term_says empty u k h = ap (replace (by f)) h
    term_says (cell t rest) u k h =
        let both : Carries (variables h.0 ++ (variables h.1 ++ [])) = subst (λ w. Carries (variables w)) h.2 k in
        let tail = front (variables h.1) [] (behind (variables h.0) (variables h.1 ++ []) both) in
        (replace (by f) h.0, replace (by f) h.1, ap (replace (by f)) h.2, term_says t h.0 (front (variables h.0) (variables h.1 ++ []) both) h.3, term_says rest h.1 tail h.4)

    list_says : (ts : Trees) (us : List term.Tree) → Carries (variables_of_list us) → SaysAllBy C ts us → SaysAllBy D ts (map (replace (by f)) us)
    list_says none us k h = ap (map (replace (by f))) h
    list_says (some t ts) us k h =
        let both : Carries (variables h.0 ++ variables_of_list h.1) = subst (λ ws. Carries (variables_of_list ws)) h.2 k in (
          replace (by f) h.0,
          map (replace (by f)) h.1,
          ap (map (replace (by f))) h.2,
          term_says t h.0 (front (variables h.0) (variables_of_list h.1) both) h.3,
          list_says ts h.1 (behind (variables h.0) (variables_of_list h.1) both) h.4,
        )

  value_says : (s : Value) (e : Expression) → Carries (variables_of_expression e) → SaysValueBy C s e → SaysValueBy D s (replace_in_expression (by f) e)
  value_says (number n) e k h = ap (replace_in_expression (by f)) h
  value_says (named v) e k h =
      let here : Carries (h.0 ∷ []) = subst (λ w. Carries (variables_of_expression w)) h.1 k in
      (f h.0, ap (replace_in_expression (by f)) h.1, here v h.0 (inl refl) h.2)
  value_says (product o a b) e k h =
      let both : Carries (variables_of_expression h.0 ++ variables_of_expression h.1) = subst (λ w. Carries (variables_of_expression w)) h.2 k in (
        replace_in_expression (by f) h.0,
        replace_in_expression (by f) h.1,
        ap (replace_in_expression (by f)) h.2,
        value_says a h.0 (front (variables_of_expression h.0) (variables_of_expression h.1) both) h.3,
        value_says b h.1 (behind (variables_of_expression h.0) (variables_of_expression h.1) both) h.4,
      )
  value_says (sum o a b) e k h =
      let both : Carries (variables_of_expression h.0 ++ variables_of_expression h.1) = subst (λ w. Carries (variables_of_expression w)) h.2 k in (
        replace_in_expression (by f) h.0,
        replace_in_expression (by f) h.1,
        ap (replace_in_expression (by f)) h.2,
        value_says a h.0 (front (variables_of_expression h.0) (variables_of_expression h.1) both) h.3,
        value_says b h.1 (behind (variables_of_expression h.0) (variables_of_expression h.1) both) h.4,
      )

  goal_says : (g : Goal) (w : goal.Goal) → Carries (variables_of_goal w) → SaysGoalBy C g w → SaysGoalBy D g (replace_in_goal (by f) w)
  goal_says (call c) w k h =
      let inner : Carries (variables_of_list h.0) = subst (λ v. Carries (variables_of_goal v)) h.1 k in
      (map (replace (by f)) h.0, ap (replace_in_goal (by f)) h.1, list_says c.arguments h.0 inner h.2)
  goal_says (unify s t) w k h =
      let both : Carries (variables h.0 ++ variables h.1) = subst (λ v. Carries (variables_of_goal v)) h.2 k in (
        replace (by f) h.0,
        replace (by f) h.1,
        ap (replace_in_goal (by f)) h.2,
        term_says s h.0 (front (variables h.0) (variables h.1) both) h.3,
        term_says t h.1 (behind (variables h.0) (variables h.1) both) h.4,
      )
  goal_says (assign v e) w k h =
      let both : Carries (h.0 ∷ variables_of_expression h.1) = subst (λ u. Carries (variables_of_goal u)) h.2 k in
      (f h.0, replace_in_expression (by f) h.1, ap (replace_in_goal (by f)) h.2, both v h.0 (inl refl) h.3, value_says e h.1 (behind (h.0 ∷ []) (variables_of_expression h.1) both) h.4)

  pub goals_say : (gs : List Goal) (ws : List goal.Goal) → Carries (variables_of_goals ws) → Each (SaysGoalBy C) gs ws → Each (SaysGoalBy D) gs (map (replace_in_goal (by f)) ws)
  goals_say [] [] k h = tt
  goals_say (g ∷ gs) (w ∷ ws) k h = (goal_says g w (front (variables_of_goal w) (variables_of_goals ws) k) h.0, goals_say gs ws (behind (variables_of_goal w) (variables_of_goals ws) k) h.1)
  goals_say gs ws k h = absurd h
