-- How many brackets stand open in what is printed of goals; and that other variables leave it so.
use Rattle.ghcdb.proofs.CitedWords.{◌≡◌, ◌+◌, ◌-◌, ◌≤◌, ℕ, true, false, List, [], ◌∷◌, ◌++◌, map, inl, inr, refl, sym, ap, ◌∙◌, subst, append-nil, arith, codes, In, bytes_eq-Decides}
use Rattle.std.specs.Prelude.{ℤ, max, if◌then◌else◌, FitsSigned}
use Rattle.std.specs.Int.{w64}
use Rattle.std.specs.Fmt.{decimal, signed_decimal}
use Rattle.std.proofs.Common.{append_assoc, pos}
use Rattle.ghc_term.specs.declared.var_name.VarName.{VarName}
use Rattle.ghc_term.specs.declared.operator.Operator.{Operator}
use Rattle.ghc_term.specs.declared.operator.Operator.TheVariants.{Add, Subtract, Multiply, Divide, Modulo}
use Rattle.ghc_term.specs.Tree.{Tree, variable, integer, node, Trees, none, more, trees}
use Rattle.ghc_term.specs.Tree as tree
use Rattle.ghc_term.specs.Expression.{Expression, leaf, operation}
use Rattle.ghc_term.specs.Goal.{Goal, call, unify, assign, stream}
use Rattle.ghc_term.specs.Text.{variable_text, is_cell, is_nil, barred, term_text, cell_text, rest_text, arguments_text, further_text}
use Rattle.ghc_term.specs.GoalText.{operand, operator_text, expression_text, goal_text}
use Rattle.ghc_term.specs.InputTerm.{IsHead, IsNameText, nesting, cell_nesting, rest_nesting, arguments_nesting, deepest, most_open}
use Rattle.ghc_term.specs.Resolved.{all_resolved}
use Rattle.ghc_term.proofs.Nesting.{text_nests, choose}
use Rattle.ghc_reader.specs.PrintedGoals.{HasNumbers, IsWritable, AreWritable, IsWritableOperand, IsWritableExpression, IsWritableTarget, IsWritableGoal}
use Rattle.ghc_reader.proofs.InputSizes.{nesting_of_name, text_of_name}
use Rattle.ghc_unify.specs.Solutions.{replace, replace_all}
use Rattle.ghc_fire.specs.Instance.{replace_in_expression, replace_in_goal}
use Rattle.ghc_records.specs.EntryText.{OpensFew}
use Rattle.ghc_records.specs.StepText.{body_text, followed_by}
use Rattle.ghc_records.proofs.PlainGoals.{unresolved}

-- The text opens at most n brackets more at one place, and closes them.
abbrev pub Opens : List ℕ → ℕ → Type 0
Opens xs n = (k : ℕ) (rest : List ℕ) → most_open k (xs ++ rest) ≤ max (k + n) (most_open k rest)

-- .. and closes one more.
abbrev Closes : List ℕ → ℕ → Type 0
Closes xs n = (k : ℕ) (rest : List ℕ) → most_open (k + 1) (xs ++ rest) ≤ max (k + 1 + n) (most_open k rest)

weaken : (xs : List ℕ) (m n : ℕ) → m ≤ n → Opens xs m → Opens xs n
weaken xs m n le p k rest = omega (arith, p k rest)

both : (xs ys : List ℕ) (n : ℕ) → Opens xs n → Opens ys n → Opens (xs ++ ys) n
both xs ys n p q k rest = omega (arith, ap (most_open k) (append_assoc xs ys rest), p k (ys ++ rest), q k rest)

both_close : (xs ys : List ℕ) (n : ℕ) → Opens xs n → Closes ys n → Closes (xs ++ ys) n
both_close xs ys n p q k rest = omega (arith, ap (most_open (k + 1)) (append_assoc xs ys rest), p (k + 1) (ys ++ rest), q k rest)

behind : (xs ys : List ℕ) (n : ℕ) → Opens xs 0 → Opens ys n → Opens (xs ++ ys) n
behind xs ys n p q = both xs ys n (weaken xs 0 n (omega arith) p) q

back : (k : ℕ) (rest : List ℕ) → most_open (k + 1 - 1) rest ≡ most_open k rest
back k rest = ap (λ j. most_open j rest) (let same : k + 1 - 1 ≡ k = omega arith in same)

opened : (xs : List ℕ) (n : ℕ) → Closes xs n → Opens (codes "[" ++ xs) (1 + n)
opened xs n p k rest = omega (arith, p k rest)

opened_round : (xs : List ℕ) (n : ℕ) → Closes xs n → Opens (codes "(" ++ xs) (1 + n)
opened_round xs n p k rest = omega (arith, p k rest)

closing : Closes (codes "]") 0
closing k rest = omega (arith, back k rest)

closing_round : Closes (codes ")") 0
closing_round k rest = omega (arith, back k rest)

closed_behind : (xs : List ℕ) (n : ℕ) → Opens xs n → Closes (xs ++ codes "]") n
closed_behind xs n p = both_close xs (codes "]") n p (λ k rest. omega (arith, closing k rest))

closed_round_behind : (xs : List ℕ) (n : ℕ) → Opens xs n → Closes (xs ++ codes ")") n
closed_round_behind xs n p = both_close xs (codes ")") n p (λ k rest. omega (arith, closing_round k rest))

after_bar : (xs : List ℕ) (n : ℕ) → Opens xs n → Closes (barred xs) n
after_bar xs n p k rest = omega (arith, closed_behind xs n p k rest)

after_comma : (xs : List ℕ) (n : ℕ) → Closes xs n → Closes (codes "," ++ xs) n
after_comma xs n p k rest = omega (arith, p k rest)

-- ---- names, numbers and variables

name_opens : (f : List ℕ) → IsNameText f → Opens f 0
name_opens f name k rest =
    let h = text_nests (node f none) (inr (inr (name, omega arith)), tt) k rest in
    omega (arith, h, ap (λ (l : List ℕ). most_open k (l ++ rest)) (text_of_name f none name ∙ append-nil f), nesting_of_name f none name)

integer_opens : (z : ℤ) → FitsSigned w64 z → Opens (signed_decimal z) 0
integer_opens z fits k rest = let h = text_nests (integer z) fits k rest in omega (arith, h)

decimal_opens : (n : ℕ) → n ≤ 4294967295 → Opens (decimal n) 0
decimal_opens n small = integer_opens (pos n) (record { sfits = omega (arith, small) })

variable_opens : (x : VarName) → HasNumbers x → Opens (variable_text x) 0
variable_opens x n k rest =
    omega (arith, behind (decimal x.step) (codes "_" ++ decimal x.place) 0 (decimal_opens x.step n.step) (λ j more. omega (arith, decimal_opens x.place n.place j more)) k rest)

-- ---- terms

nil_opens : (f : List ℕ) (ts : Trees) → is_nil f ts ≡ true → Opens (f ++ arguments_text ts) 1
nil_opens f none e = subst (λ g. Opens (g ++ []) 1) (sym ((bytes_eq-Decides f (codes "[]")).0 e)) (opened (codes "]") 0 closing)
nil_opens f (more t ts) e = cc

head_opens : (f : List ℕ) (ts : Trees) → is_nil f ts ≡ false → is_cell f ts ≡ false → IsHead f ts → Opens f 0
head_opens f ts n e (inl z) = let clash : true ≡ false = sym z ∙ n in cc
head_opens f ts n e (inr (inl z)) = let clash : true ≡ false = sym z ∙ e in cc
head_opens f ts n e (inr (inr p)) = name_opens f p.0

opens_max : (xs : List ℕ) (m n : ℕ) → Opens xs m → Opens xs (max m n)
opens_max xs m n p k rest = omega (arith, p k rest)

closes_max : (xs : List ℕ) (m n : ℕ) → Closes xs n → Closes xs (max m n)
closes_max xs m n p k rest = omega (arith, p k rest)

one_and_rest : (xs ys : List ℕ) (m n : ℕ) → Opens xs m → Closes ys n → Closes (xs ++ ys) (max m n)
one_and_rest xs ys m n p q = both_close xs ys (max m n) (opens_max xs m n p) (closes_max ys m n q)

mutual
  tree_opens : (t : Tree) → IsWritable HasNumbers t → Opens (term_text t) (nesting t)
  tree_opens (variable x) w = variable_opens x w
  tree_opens (integer z) w = integer_opens z w
  tree_opens (node f ts) w =
      choose Opens (is_cell f ts) (codes "[" ++ cell_text ts) (f ++ arguments_text ts) (1 + cell_nesting ts) (if is_nil f ts then 1 else arguments_nesting ts)
      (λ e. opened (cell_text ts) (cell_nesting ts) (cell_closes f ts e w.1))
      (λ e. choose (λ _. Opens (f ++ arguments_text ts)) (is_nil f ts) [] [] 1 (arguments_nesting ts)
      (nil_opens f ts) (λ n. behind f (arguments_text ts) (arguments_nesting ts) (head_opens f ts n e w.0) (arguments_open ts w.1)))

  cell_closes : (f : List ℕ) (ts : Trees) → is_cell f ts ≡ true → AreWritable HasNumbers ts → Closes (cell_text ts) (cell_nesting ts)
  cell_closes f (more t (more u none)) e w = one_and_rest (term_text t) (rest_text u) (nesting t) (rest_nesting u) (tree_opens t w.0) (rest_closes u w.1.0)
  cell_closes f ts e w = cc

  rest_closes : (t : Tree) → IsWritable HasNumbers t → Closes (rest_text t) (rest_nesting t)
  rest_closes (variable x) w = after_bar (variable_text x) 0 (variable_opens x w)
  rest_closes (integer z) w = after_bar (signed_decimal z) 0 (integer_opens z w)
  rest_closes (node f ts) w =
      choose Closes (is_nil f ts) (codes "]") (if is_cell f ts then codes "," ++ cell_text ts else barred (f ++ arguments_text ts)) 0
      (if is_cell f ts then cell_nesting ts else arguments_nesting ts)
      (λ n. closing)
      (λ n. choose Closes (is_cell f ts) (codes "," ++ cell_text ts) (barred (f ++ arguments_text ts)) (cell_nesting ts) (arguments_nesting ts)
      (λ e. after_comma (cell_text ts) (cell_nesting ts) (cell_closes f ts e w.1))
      (λ e. after_bar (f ++ arguments_text ts) (arguments_nesting ts) (behind f (arguments_text ts) (arguments_nesting ts) (head_opens f ts n e w.0) (arguments_open ts w.1))))

  arguments_open : (ts : Trees) → AreWritable HasNumbers ts → Opens (arguments_text ts) (arguments_nesting ts)
  arguments_open none w = λ k rest. omega arith
  arguments_open (more t ts) w =
      opened_round (term_text t ++ further_text ts) (max (nesting t) (deepest ts)) (one_and_rest (term_text t) (further_text ts) (nesting t) (deepest ts) (tree_opens t w.0) (further_closes ts w.1))

  further_closes : (ts : Trees) → AreWritable HasNumbers ts → Closes (further_text ts) (deepest ts)
  further_closes none w = closing_round
  further_closes (more t ts) w =
      after_comma (term_text t ++ further_text ts) (max (nesting t) (deepest ts)) (one_and_rest (term_text t) (further_text ts) (nesting t) (deepest ts) (tree_opens t w.0) (further_closes ts w.1))

-- ---- expressions and goals

-- how deep the operators of an expression stand inside one another
abbrev pub levels : Expression → ℕ
levels (leaf t) = 0
levels (operation o a b) = max (levels a) (levels b) + 1

-- how many brackets stand open at one place in the text of a goal, at most
abbrev pub goal_depth : Goal → ℕ
goal_depth (call f ts) = arguments_nesting (trees ts)
goal_depth (unify t u) = max (nesting t) (nesting u)
goal_depth (assign t e) = levels e
goal_depth (stream k x) = 0

leaf_opens : (t : Tree) → IsWritableOperand HasNumbers t → Opens (term_text t) 0
leaf_opens (variable x) w = variable_opens x w
leaf_opens (integer z) w = integer_opens z w
leaf_opens (node f ts) w = absurd w

target_opens : (t : Tree) → IsWritableTarget HasNumbers t → Opens (term_text t) 0
target_opens (variable x) w = variable_opens x w
target_opens (integer z) w = absurd w
target_opens (node f ts) w = absurd w

operator_opens : (o : Operator) → Opens (operator_text o) 0
operator_opens Add k rest = omega arith
operator_opens Subtract k rest = omega arith
operator_opens Multiply k rest = omega arith
operator_opens Divide k rest = omega arith
operator_opens Modulo k rest = omega arith

bracketed : (xs : List ℕ) (n : ℕ) → Opens xs n → Opens (codes "(" ++ (xs ++ codes ")")) (n + 1)
bracketed xs n p k rest = omega (arith, opened_round (xs ++ codes ")") n (closed_round_behind xs n p) k rest)

-- an operator between two operands
joined : (o : Operator) (left right : List ℕ) (m n : ℕ) → Opens left m → Opens right n → Opens (left ++ (operator_text o ++ right)) (max m n)
joined o left right m n p q =
    both left (operator_text o ++ right) (max m n) (weaken left m (max m n) (omega arith) p) (behind (operator_text o) right (max m n) (operator_opens o) (weaken right n (max m n) (omega arith) q))

operand_opens : (e : Expression) → IsWritableExpression HasNumbers e → Opens (operand e (expression_text e)) (levels e)
operand_opens (leaf t) w = leaf_opens t w
operand_opens (operation o a b) w =
    bracketed (expression_text (operation o a b)) (max (levels a) (levels b))
    (joined o (operand a (expression_text a)) (operand b (expression_text b)) (levels a) (levels b) (operand_opens a w.0) (operand_opens b w.1))

expression_opens : (e : Expression) → IsWritableExpression HasNumbers e → Opens (expression_text e) (levels e)
expression_opens (leaf t) w = leaf_opens t w
expression_opens (operation o a b) w =
    weaken (expression_text (operation o a b)) (max (levels a) (levels b)) (levels (operation o a b)) (omega arith)
    (joined o (operand a (expression_text a)) (operand b (expression_text b)) (levels a) (levels b) (operand_opens a w.0) (operand_opens b w.1))

goal_opens : (g : Goal) → IsWritableGoal HasNumbers g → Opens (goal_text g) (goal_depth g)
goal_opens (call f ts) w =
    let n = arguments_nesting (trees ts) in
    behind f (arguments_text (all_resolved (λ t. t) ts)) n (name_opens f w.0) (subst (λ us. Opens (arguments_text us) n) (sym (unresolved ts)) (arguments_open (trees ts) w.2))
goal_opens (unify t u) w =
    let n = max (nesting t) (nesting u) in
    both (term_text t) (codes " = " ++ term_text u) n (weaken (term_text t) (nesting t) n (omega arith) (tree_opens t w.0))
    (behind (codes " = ") (term_text u) n (λ k rest. omega arith) (weaken (term_text u) (nesting u) n (omega arith) (tree_opens u w.1)))
goal_opens (assign t e) w =
    behind (term_text t) (codes " := " ++ expression_text e) (levels e) (target_opens t w.0) (behind (codes " := ") (expression_text e) (levels e) (λ k rest. omega arith) (expression_opens e w.1))
goal_opens (stream k x) w = absurd w

-- goals of which each opens at most n
module _ (n : ℕ) where
  further_open : (gs : List Goal) → ((g : Goal) → In g gs → IsWritableGoal HasNumbers g) → ((g : Goal) → In g gs → goal_depth g ≤ n) → Opens (followed_by (codes ", ") (map goal_text gs)) n
  further_open [] w d = λ k rest. omega arith
  further_open (g ∷ gs) w d =
      let others = followed_by (codes ", ") (map goal_text gs) in
      behind (codes ", ") (goal_text g ++ others) n (λ k rest. omega arith)
      (both (goal_text g) others n (weaken (goal_text g) (goal_depth g) n (d g (inl refl)) (goal_opens g (w g (inl refl)))) (further_open gs (λ h i. w h (inr i)) (λ h i. d h (inr i))))

  body_opens : (gs : List Goal) → ((g : Goal) → In g gs → IsWritableGoal HasNumbers g) → ((g : Goal) → In g gs → goal_depth g ≤ n) → Opens (body_text gs) n
  body_opens [] w d = λ k rest. omega arith
  body_opens (g ∷ gs) w d =
      both (goal_text g) (followed_by (codes ", ") (map goal_text gs)) n (weaken (goal_text g) (goal_depth g) n (d g (inl refl)) (goal_opens g (w g (inl refl))))
      (further_open gs (λ h i. w h (inr i)) (λ h i. d h (inr i)))

pub opens_few : (gs : List Goal) → ((g : Goal) → In g gs → IsWritableGoal HasNumbers g) → ((g : Goal) → In g gs → goal_depth g ≤ 1000) → OpensFew (body_text gs)
opens_few gs w d = let h = body_opens 1000 gs w d 0 [] in omega (arith, h, ap (most_open 0) (append-nil (body_text gs)))

-- ---- other variables

module _ (V : VarName → Type 0) (s : VarName → Tree) (becomes : (x : VarName) → V x → (y : VarName) × (s x ≡ variable y)) where
  same_cell : (f : List ℕ) (ts : Trees) → is_cell f (replace_all s ts) ≡ is_cell f ts
  same_cell f none = refl
  same_cell f (more t none) = refl
  same_cell f (more t (more u none)) = refl
  same_cell f (more t (more u (more v ts))) = refl

  same_nil : (f : List ℕ) (ts : Trees) → is_nil f (replace_all s ts) ≡ is_nil f ts
  same_nil f none = refl
  same_nil f (more t ts) = refl

  mutual
    same_nesting : (t : Tree) → IsWritable V t → nesting (replace s t) ≡ nesting t
    same_nesting (variable x) w = ap nesting (becomes x w).1
    same_nesting (integer z) w = refl
    same_nesting (node f ts) w =
        rw (same_cell f ts, same_nil f ts, same_cell_nesting ts w.1, same_arguments ts w.1) refl

    same_cell_nesting : (ts : Trees) → AreWritable V ts → cell_nesting (replace_all s ts) ≡ cell_nesting ts
    same_cell_nesting none w = refl
    same_cell_nesting (more t none) w = refl
    same_cell_nesting (more t (more u none)) w = omega (arith, same_nesting t w.0, same_rest u w.1.0)
    same_cell_nesting (more t (more u (more v ts))) w = refl

    same_rest : (t : Tree) → IsWritable V t → rest_nesting (replace s t) ≡ rest_nesting t
    same_rest (variable x) w = ap rest_nesting (becomes x w).1
    same_rest (integer z) w = refl
    same_rest (node f ts) w = rw (same_nil f ts, same_cell f ts, same_cell_nesting ts w.1, same_arguments ts w.1) refl

    same_arguments : (ts : Trees) → AreWritable V ts → arguments_nesting (replace_all s ts) ≡ arguments_nesting ts
    same_arguments none w = refl
    same_arguments (more t ts) w = omega (arith, same_nesting t w.0, same_deepest ts w.1)

    same_deepest : (ts : Trees) → AreWritable V ts → deepest (replace_all s ts) ≡ deepest ts
    same_deepest none w = refl
    same_deepest (more t ts) w = omega (arith, same_nesting t w.0, same_deepest ts w.1)

  replaced_list : (ts : List Tree) → trees (map (replace s) ts) ≡ replace_all s (trees ts)
  replaced_list [] = refl
  replaced_list (t ∷ ts) = ap (tree.more (replace s t)) (replaced_list ts)

  same_levels : (e : Expression) → levels (replace_in_expression s e) ≡ levels e
  same_levels (leaf t) = refl
  same_levels (operation o a b) = omega (arith, same_levels a, same_levels b)

  same_depth : (g : Goal) → IsWritableGoal V g → goal_depth (replace_in_goal s g) ≡ goal_depth g
  same_depth (call f ts) w = ap arguments_nesting (replaced_list ts) ∙ same_arguments (trees ts) w.2
  same_depth (unify t u) w = omega (arith, same_nesting t w.0, same_nesting u w.1)
  same_depth (assign t e) w = same_levels e
  same_depth (stream k x) w = absurd w

  -- goals with other variables are no deeper
  pub as_deep : (n : ℕ) (gs : List Goal) → ((g : Goal) → In g gs → IsWritableGoal V g) → ((g : Goal) → In g gs → goal_depth g ≤ n) → (g : Goal) → In g (map (replace_in_goal s) gs) → goal_depth g ≤ n
  as_deep n [] w d g i = absurd i
  as_deep n (h ∷ gs) w d g (inl e) = omega (arith, ap goal_depth e, same_depth h (w h (inl refl)), d h (inl refl))
  as_deep n (h ∷ gs) w d g (inr i) = as_deep n gs (λ k j. w k (inr j)) (λ k j. d k (inr j)) g i
