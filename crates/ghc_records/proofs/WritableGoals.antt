-- Goals that the grammar has a text for: what holds of their variables, and that no stream is among them.
use Rattle.ghc_records.proofs.Words.{◌≡◌, List, [], ◌∷◌, false, refl, sym, ap, ◌∙◌, subst, inl, inr, cond, filter, VarName, In, Tree, variable, integer, node, Trees, none, more, trees, Expression, leaf, operation, Goal, call, unify, assign, stream, variables, variables_of_all, variables_of_list, variables_of_expression, variables_of_goals, in_either, IsWritable, AreWritable, IsWritableOperand, IsWritableExpression, IsWritableTarget, IsWritableGoal, is_stream}
use Rattle.ghc_term.specs.Variables.{variables_of_goal}

module _ (V : VarName → Type 0) (x : VarName) where
  mutual
    tree_has : (t : Tree) → IsWritable V t → In x (variables t) → V x
    tree_has (variable y) w (inl e) = subst V (sym e) w
    tree_has (variable y) w (inr i) = absurd i
    tree_has (integer k) w i = absurd i
    tree_has (node f ts) w i = all_have ts w.1 i

    all_have : (ts : Trees) → AreWritable V ts → In x (variables_of_all ts) → V x
    all_have none w i = absurd i
    all_have (more t ts) w i = elim (in_either (variables t) (variables_of_all ts) x i) [ inl j ↦ tree_has t w.0 j | inr j ↦ all_have ts w.1 j ]

  list_has : (ts : List Tree) → AreWritable V (trees ts) → In x (variables_of_list ts) → V x
  list_has [] w i = absurd i
  list_has (t ∷ ts) w i = elim (in_either (variables t) (variables_of_list ts) x i) [ inl j ↦ tree_has t w.0 j | inr j ↦ list_has ts w.1 j ]

  operand_has : (t : Tree) → IsWritableOperand V t → In x (variables t) → V x
  operand_has (variable y) w (inl e) = subst V (sym e) w
  operand_has (variable y) w (inr i) = absurd i
  operand_has (integer k) w i = absurd i
  operand_has (node f ts) w i = absurd w

  expression_has : (e : Expression) → IsWritableExpression V e → In x (variables_of_expression e) → V x
  expression_has (leaf t) w i = operand_has t w i
  expression_has (operation o a b) w i = elim (in_either (variables_of_expression a) (variables_of_expression b) x i) [ inl j ↦ expression_has a w.0 j | inr j ↦ expression_has b w.1 j ]

  target_has : (t : Tree) → IsWritableTarget V t → In x (variables t) → V x
  target_has (variable y) w (inl e) = subst V (sym e) w
  target_has (variable y) w (inr i) = absurd i
  target_has t w i = absurd w

  goal_has : (g : Goal) → IsWritableGoal V g → In x (variables_of_goal g) → V x
  goal_has (call f ts) w i = list_has ts w.2 i
  goal_has (unify t u) w i = elim (in_either (variables t) (variables u) x i) [ inl j ↦ tree_has t w.0 j | inr j ↦ tree_has u w.1 j ]
  goal_has (assign t e) w i = elim (in_either (variables t) (variables_of_expression e) x i) [ inl j ↦ target_has t w.0 j | inr j ↦ expression_has e w.1 j ]
  goal_has (stream k y) w i = absurd w

  -- of each of their variables V holds
  pub goals_have : (gs : List Goal) → ((g : Goal) → In g gs → IsWritableGoal V g) → In x (variables_of_goals gs) → V x
  goals_have [] w i = absurd i
  goals_have (g ∷ gs) w i = elim (in_either (variables_of_goal g) (variables_of_goals gs) x i) [ inl j ↦ goal_has g (w g (inl refl)) j | inr j ↦ goals_have gs (λ h k. w h (inr k)) j ]

no_stream : (V : VarName → Type 0) (g : Goal) → IsWritableGoal V g → is_stream g ≡ false
no_stream V (stream k x) w = absurd w
no_stream V g w = refl

pub none_streams : (V : VarName → Type 0) (gs : List Goal) → ((g : Goal) → In g gs → IsWritableGoal V g) → filter is_stream gs ≡ []
none_streams V [] w = refl
none_streams V (g ∷ gs) w = ap (λ b. cond b (g ∷ filter is_stream gs) (filter is_stream gs)) (no_stream V g (w g (inl refl))) ∙ none_streams V gs (λ h k. w h (inr k))
