-- No two lists of goals that the grammar has a text for are printed alike.
use Rattle.ghc_reader.proofs.Words.{◌≡◌, List, [], ◌∷◌, refl, sym, ap, ◌∙◌, subst, inl, inr, In, node, trees, cons, leaf, operation, IsLexed, Allowed, Tree, structure, cell, Trees, none, some, Value, number, named, product, sum, Goal, query_of, SaysBy, SaysAllBy, SaysValueBy, SaysGoalBy, Each, doing, product_operator, sum_operator, goals_text, HasNumbers, IsWritable, AreWritable, IsWritableExpression, IsWritableGoal, IsPrintedAs}
use Rattle.ghc_term.specs.Tree as term
use Rattle.ghc_term.specs.Expression as shown
use Rattle.ghc_term.specs.Goal as goal
use Rattle.ghc_reader.specs.Source.{variable, call, unify, assign}
use Rattle.ghc_reader.proofs.OneLexing.{one_lexing}
use Rattle.ghc_reader.proofs.Whole.{one_query}
use Rattle.ghc_reader.proofs.PrintedNames.{one_variable}
use Rattle.ghc_reader.proofs.PrintedAgain.{goals_again}

-- ---- a parse tree says one goal, where each variable is called as it is printed

mutual
  one_tree : (t : Tree) (u w : term.Tree) → SaysBy IsPrintedAs t u → SaysBy IsPrintedAs t w → IsWritable HasNumbers u → IsWritable HasNumbers w → u ≡ w
  one_tree (variable v) u w h k a b =
      h.1 ∙ ap term.variable (one_variable h.0 k.0 (subst (IsWritable HasNumbers) h.1 a) (subst (IsWritable HasNumbers) k.1 b) (sym h.2 ∙ k.2)) ∙ sym k.1
  one_tree (structure f ts) u w h k a b =
      let inner = subst (IsWritable HasNumbers) h.1 a in
      let other = subst (IsWritable HasNumbers) k.1 b in
      h.1 ∙ ap (λ l. node f (trees l)) (one_list ts h.0 k.0 h.2 k.2 inner.1 other.1) ∙ sym k.1
  one_tree (cell t rest) u w h k a b =
      let inner = subst (IsWritable HasNumbers) h.2 a in
      let other = subst (IsWritable HasNumbers) k.2 b in
      let first = one_tree t h.0 k.0 h.3 k.3 inner.1.0 other.1.0 in
      let second = one_tree rest h.1 k.1 h.4 k.4 inner.1.1.0 other.1.1.0 in
      h.2 ∙ (λ i. cons (first i) (second i)) ∙ sym k.2
  one_tree t u w h k a b = h ∙ sym k

  one_list : (ts : Trees) (us ws : List term.Tree) → SaysAllBy IsPrintedAs ts us → SaysAllBy IsPrintedAs ts ws → AreWritable HasNumbers (trees us) → AreWritable HasNumbers (trees ws) → us ≡ ws
  one_list none us ws h k a b = h ∙ sym k
  one_list (some t ts) us ws h k a b =
      let inner = subst (λ l. AreWritable HasNumbers (trees l)) h.2 a in
      let other = subst (λ l. AreWritable HasNumbers (trees l)) k.2 b in
      let first = one_tree t h.0 k.0 h.3 k.3 inner.0 other.0 in
      let others = one_list ts h.1 k.1 h.4 k.4 inner.1 other.1 in
      h.2 ∙ (λ i. first i ∷ others i) ∙ sym k.2

one_value : (s : Value) (u w : shown.Expression) → SaysValueBy IsPrintedAs s u → SaysValueBy IsPrintedAs s w → IsWritableExpression HasNumbers u → IsWritableExpression HasNumbers w → u ≡ w
one_value (number n) u w h k a b = h ∙ sym k
one_value (named v) u w h k a b =
    let x = subst (IsWritableExpression HasNumbers) h.1 a in
    let y = subst (IsWritableExpression HasNumbers) k.1 b in
    h.1 ∙ ap (λ z. leaf (term.variable z)) (one_variable h.0 k.0 x y (sym h.2 ∙ k.2)) ∙ sym k.1
one_value (product o s t) u w h k a b =
    let inner = subst (IsWritableExpression HasNumbers) h.2 a in
    let other = subst (IsWritableExpression HasNumbers) k.2 b in
    let left = one_value s h.0 k.0 h.3 k.3 inner.0 other.0 in
    let right = one_value t h.1 k.1 h.4 k.4 inner.1 other.1 in
    h.2 ∙ (λ i. operation (product_operator o) (left i) (right i)) ∙ sym k.2
one_value (sum o s t) u w h k a b =
    let inner = subst (IsWritableExpression HasNumbers) h.2 a in
    let other = subst (IsWritableExpression HasNumbers) k.2 b in
    let left = one_value s h.0 k.0 h.3 k.3 inner.0 other.0 in
    let right = one_value t h.1 k.1 h.4 k.4 inner.1 other.1 in
    h.2 ∙ (λ i. operation (sum_operator o) (left i) (right i)) ∙ sym k.2

one_goal : (x : Goal) (g h : goal.Goal) → SaysGoalBy IsPrintedAs x g → SaysGoalBy IsPrintedAs x h → IsWritableGoal HasNumbers g → IsWritableGoal HasNumbers h → g ≡ h
one_goal (call c) g h p q a b =
    let inner = subst (IsWritableGoal HasNumbers) p.1 a in
    let other = subst (IsWritableGoal HasNumbers) q.1 b in
    p.1 ∙ ap (goal.call c.name) (one_list c.arguments p.0 q.0 p.2 q.2 inner.2 other.2) ∙ sym q.1
one_goal (unify s t) g h p q a b =
    let inner = subst (IsWritableGoal HasNumbers) p.2 a in
    let other = subst (IsWritableGoal HasNumbers) q.2 b in
    let left = one_tree s p.0 q.0 p.3 q.3 inner.0 other.0 in
    let right = one_tree t p.1 q.1 p.4 q.4 inner.1 other.1 in
    p.2 ∙ (λ i. goal.unify (left i) (right i)) ∙ sym q.2
one_goal (assign v e) g h p q a b =
    let inner = subst (IsWritableGoal HasNumbers) p.2 a in
    let other = subst (IsWritableGoal HasNumbers) q.2 b in
    let target = one_variable p.0 q.0 inner.0 other.0 (sym p.3 ∙ q.3) in
    let right = one_value e p.1 q.1 p.4 q.4 inner.1 other.1 in
    p.2 ∙ (λ i. goal.assign (term.variable (target i)) (right i)) ∙ sym q.2

each_one : (xs : List Goal) (gs hs : List goal.Goal) → Each (SaysGoalBy IsPrintedAs) xs gs → Each (SaysGoalBy IsPrintedAs) xs hs
    → ((g : goal.Goal) → In g gs → IsWritableGoal HasNumbers g) → ((h : goal.Goal) → In h hs → IsWritableGoal HasNumbers h) → gs ≡ hs
each_one [] [] [] p q a b = refl
each_one (x ∷ xs) (g ∷ gs) (h ∷ hs) p q a b =
    let first = one_goal x g h p.0 q.0 (a g (inl refl)) (b h (inl refl)) in
    let others = each_one xs gs hs p.1 q.1 (λ y stands. a y (inr stands)) (λ y stands. b y (inr stands)) in
    λ i. first i ∷ others i
each_one [] (g ∷ gs) hs p q a b = absurd p
each_one (x ∷ xs) [] hs p q a b = absurd p
each_one xs gs hs p q a b = absurd q

-- ---- the texts

pub goals_apart : (gs hs : List goal.Goal) → ((g : goal.Goal) → In g gs → IsWritableGoal HasNumbers g) → ((h : goal.Goal) → In h hs → IsWritableGoal HasNumbers h) → goals_text gs ≡ goals_text hs → gs ≡ hs
goals_apart gs hs a b e =
    let p = (goals_again gs a).said in
    let q = (goals_again hs b).said in
    let tokens = one_lexing Allowed (goals_text hs) p.tokens q.tokens p.places q.places (subst (λ text. IsLexed Allowed text p.tokens p.places) e p.lexed) q.lexed in
    let same = one_query p.derivation q.derivation (sym p.spelled ∙ tokens.0 ∙ q.spelled) in
    each_one (doing (query_of q.derivation [])) gs hs (subst (λ l. Each (SaysGoalBy IsPrintedAs) (doing l) gs) same p.says) q.says a b
