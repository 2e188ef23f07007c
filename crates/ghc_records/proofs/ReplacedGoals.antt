-- Goals that the grammar has a text for, with other variables: it has a text for them too.
use Rattle.ghc_records.proofs.Words.{◌≡◌, ℕ, suc, List, [], ◌∷◌, length, map, refl, sym, ap, ◌∙◌, subst, inl, inr, arith, length-map, VarName, In, Tree, variable, integer, node, Trees, none, more, list_of, trees, Expression, leaf, operation, Goal, call, unify, assign, stream, IsHead, IsWritable, AreWritable, IsWritableOperand, IsWritableExpression, IsWritableTarget, IsWritableGoal, replace, replace_all, replace_in_expression, replace_in_goal}

-- each variable of which V holds becomes one of which W holds
module _ (V W : VarName → Type 0) (s : VarName → Tree) (becomes : (x : VarName) → V x → (y : VarName) × (s x ≡ variable y) × W y) where
  as_many : (ts : Trees) → length (list_of (replace_all s ts)) ≡ length (list_of ts)
  as_many none = refl
  as_many (more t ts) = ap suc (as_many ts)

  head_stays : (f : List ℕ) (ts : Trees) → IsHead f ts → IsHead f (replace_all s ts)
  head_stays f (more t (more u (more v ts))) (inl z) = inl z
  head_stays f (more t (more u (more v ts))) (inr (inl z)) = inr (inl z)
  head_stays f (more t (more u (more v ts))) (inr (inr p)) = inr (inr (p.0, omega (arith, p.1, as_many ts)))
  head_stays f ts h = h

  mutual
    tree_stays : (t : Tree) → IsWritable V t → IsWritable W (replace s t)
    tree_stays (variable x) w = let k = becomes x w in subst (IsWritable W) (sym k.1) k.2
    tree_stays (integer k) w = w
    tree_stays (node f ts) w = (head_stays f ts w.0, all_stay ts w.1)

    all_stay : (ts : Trees) → AreWritable V ts → AreWritable W (replace_all s ts)
    all_stay none w = w
    all_stay (more t ts) w = (tree_stays t w.0, all_stay ts w.1)

  list_stays : (ts : List Tree) → AreWritable V (trees ts) → AreWritable W (trees (map (replace s) ts))
  list_stays [] w = w
  list_stays (t ∷ ts) w = (tree_stays t w.0, list_stays ts w.1)

  operand_stays : (t : Tree) → IsWritableOperand V t → IsWritableOperand W (replace s t)
  operand_stays (variable x) w = let k = becomes x w in subst (IsWritableOperand W) (sym k.1) k.2
  operand_stays (integer k) w = w
  operand_stays (node f ts) w = absurd w

  expression_stays : (e : Expression) → IsWritableExpression V e → IsWritableExpression W (replace_in_expression s e)
  expression_stays (leaf t) w = operand_stays t w
  expression_stays (operation o a b) w = (expression_stays a w.0, expression_stays b w.1)

  target_stays : (t : Tree) → IsWritableTarget V t → IsWritableTarget W (replace s t)
  target_stays (variable x) w = let k = becomes x w in subst (IsWritableTarget W) (sym k.1) k.2
  target_stays t w = absurd w

  goal_stays : (g : Goal) → IsWritableGoal V g → IsWritableGoal W (replace_in_goal s g)
  goal_stays (call f ts) w =
      let same = length-map ts (replace s) in
      (w.0, omega (arith, same, w.1), list_stays ts w.2, λ e. w.3 (e.0, sym same ∙ e.1), λ e. w.4 (e.0, sym same ∙ e.1))
  goal_stays (unify t u) w = (tree_stays t w.0, tree_stays u w.1)
  goal_stays (assign t e) w = (target_stays t w.0, expression_stays e w.1)
  goal_stays (stream k x) w = absurd w

  pub goals_stay : (gs : List Goal) → ((g : Goal) → In g gs → IsWritableGoal V g) → (g : Goal) → In g (map (replace_in_goal s) gs) → IsWritableGoal W g
  goals_stay [] w g i = absurd i
  goals_stay (h ∷ gs) w g (inl e) = subst (IsWritableGoal W) (sym e) (goal_stays h (w h (inl refl)))
  goals_stay (h ∷ gs) w g (inr i) = goals_stay gs (λ k j. w k (inr j)) g i
