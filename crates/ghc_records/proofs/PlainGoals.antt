-- No line feed stands in the text of goals that the grammar has a text for.
use Rattle.ghc_records.proofs.Words.{◌≡◌, ℕ, List, [], ◌∷◌, ◌++◌, map, refl, sym, ap, subst, inl, inr, arith, decimal, codes, VarName, Operator, Add, In, Tree, variable, integer, node, trees, Expression, leaf, operation, Goal, call, unify, assign, stream, arguments_text, term_text, variable_text, expression_text, goal_text, operand, operator_text, all_resolved, HasNumbers, IsWritableOperand, IsWritableExpression, IsWritableTarget, IsWritableGoal, body_text, followed_by}
use Rattle.ghc_term.specs.Tree as tree
use Rattle.ghc_records.proofs.CutLemmas.{fits}
use Rattle.ghc_records.proofs.PlainTexts.{HasNoFeed, arguments_plain, both, byte_first, decimal_text, integer_text, name_text, nothing, plain_codes, tree_plain}

variable_plain : (x : VarName) → HasNumbers x → HasNoFeed (variable_text x)
variable_plain x n =
    byte_first 95 (decimal x.step ++ (codes "_" ++ decimal x.place)) (λ e. omega (arith, e))
    (both (decimal x.step) (codes "_" ++ decimal x.place) (decimal_text x.step (fits x.step n.step)) (byte_first 95 (decimal x.place) (λ e. omega (arith, e)) (decimal_text x.place (fits x.place n.place))))

operand_plain : (t : Tree) → IsWritableOperand HasNumbers t → HasNoFeed (term_text t)
operand_plain (variable x) w = variable_plain x w
operand_plain (integer k) w = integer_text k w
operand_plain (node f ts) w = absurd w

target_plain : (t : Tree) → IsWritableTarget HasNumbers t → HasNoFeed (term_text t)
target_plain (variable x) w = variable_plain x w
target_plain t w = absurd w

operator_plain : (o : Operator) → HasNoFeed (operator_text o)
operator_plain Add = plain_codes (operator_text Add) refl
operator_plain o = plain_codes (operator_text o) refl

in_brackets : (e : Expression) (text : List ℕ) → HasNoFeed text → HasNoFeed (operand e text)
in_brackets (leaf t) text h = h
in_brackets (operation o a b) text h = byte_first 40 (text ++ codes ")") (λ e. omega (arith, e)) (both text (codes ")") h (plain_codes (codes ")") refl))

expression_plain : (e : Expression) → IsWritableExpression HasNumbers e → HasNoFeed (expression_text e)
expression_plain (leaf t) w = operand_plain t w
expression_plain (operation o a b) w =
    both (operand a (expression_text a)) (operator_text o ++ operand b (expression_text b)) (in_brackets a (expression_text a) (expression_plain a w.0))
    (both (operator_text o) (operand b (expression_text b)) (operator_plain o) (in_brackets b (expression_text b) (expression_plain b w.1)))

pub unresolved : (ts : List Tree) → all_resolved (λ t. t) ts ≡ trees ts
unresolved [] = refl
unresolved (t ∷ ts) = ap (tree.more t) (unresolved ts)

goal_plain : (g : Goal) → IsWritableGoal HasNumbers g → HasNoFeed (goal_text g)
goal_plain (call f ts) w =
    both f (arguments_text (all_resolved (λ t. t) ts)) (name_text f w.0)
    (subst (λ us. HasNoFeed (arguments_text us)) (sym (unresolved ts)) (arguments_plain HasNumbers variable_plain (trees ts) w.2))
goal_plain (unify t u) w =
    both (term_text t) (codes " = " ++ term_text u) (tree_plain HasNumbers variable_plain t w.0) (both (codes " = ") (term_text u) (plain_codes (codes " = ") refl) (tree_plain HasNumbers variable_plain u w.1))
goal_plain (assign t e) w = both (term_text t) (codes " := " ++ expression_text e) (target_plain t w.0) (both (codes " := ") (expression_text e) (plain_codes (codes " := ") refl) (expression_plain e w.1))
goal_plain (stream k x) w = absurd w

further_plain : (gs : List Goal) → ((g : Goal) → In g gs → IsWritableGoal HasNumbers g) → HasNoFeed (followed_by (codes ", ") (map goal_text gs))
further_plain [] w = nothing
further_plain (g ∷ gs) w =
    let others = followed_by (codes ", ") (map goal_text gs) in
    both (codes ", ") (goal_text g ++ others) (plain_codes (codes ", ") refl) (both (goal_text g) others (goal_plain g (w g (inl refl))) (further_plain gs (λ h i. w h (inr i))))

pub body_plain : (gs : List Goal) → ((g : Goal) → In g gs → IsWritableGoal HasNumbers g) → HasNoFeed (body_text gs)
body_plain [] w = plain_codes (codes "true") refl
body_plain (g ∷ gs) w = both (goal_text g) (followed_by (codes ", ") (map goal_text gs)) (goal_plain g (w g (inl refl))) (further_plain gs (λ h i. w h (inr i)))
