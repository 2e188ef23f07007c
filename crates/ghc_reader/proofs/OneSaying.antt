-- Terms, goals and guards that say one parse tree and have the same variables in order are the same.
use Rattle.ghc_reader.proofs.Words.{◌≡◌, ℕ, ◌+◌, zero, suc, List, [], ◌∷◌, ◌++◌, Option, Some, None, false, cond, refl, sym, ap, ◌∙◌, subst, arith, append_assoc, slice_get, filter, MatchOption, VarName, node, trees, cons, leaf, operation, variables_of_list, variables_of_expression, leaf_variables, variables_of_goal, variables_of_goals, Guard, Tree, Trees, structure, empty, cell, none, some, Value, number, named, product, sum, Goal, is_stream, variables_of_guard, variables_of_guards, Names, IsCalled, Says, SaysAll, SaysValue, SaysGoal, SaysAsked, SaysGuard, Each, tail_of, product_operator, sum_operator, AreCounted}
use Rattle.ghc_term.specs.Tree as term
use Rattle.ghc_term.specs.Expression.{Expression}
use Rattle.ghc_term.specs.Goal as goal
use Rattle.ghc_term.specs.Variables.{variables}
use Rattle.ghc_reader.specs.declared.written.Guard.TheVariants.{Item as item, Comparison as comparison}
use Rattle.ghc_reader.specs.Source.{variable, integer, call, unify, assign, Test, plain, compare}
use Rattle.ghc_reader.proofs.TermsLowered.{variables_of_trees}
use Rattle.ghc_reader.proofs.ClausesLowered.{leaves_are_all}
use Rattle.ghc_reader.proofs.Streams.{no_stream}

-- The things are one, and the variables after them too.
abbrev Same : {A : Type 0} → A → A → List VarName → List VarName → Type 0
Same u w xs ys = (u ≡ w) × (xs ≡ ys)

-- the variables in front of others, where they are those of two lists, one after the other
apart : (ks ls ms ns xs ys : List VarName) → ks ++ ls ++ xs ≡ ms ++ ns ++ ys → ks ++ (ls ++ xs) ≡ ms ++ (ns ++ ys)
apart ks ls ms ns xs ys e = sym (append_assoc ks ls xs) ∙ e ∙ append_assoc ms ns ys

-- the variables in front of others, of things that are known
known : {A : Type 0} (f : A → List VarName) (u v w z : A) (xs ys : List VarName) → u ≡ v → w ≡ z → f u ++ xs ≡ f w ++ ys → f v ++ xs ≡ f z ++ ys
known f u v w z xs ys is is' e = ap (λ t. f t ++ xs) (sym is) ∙ e ∙ ap (λ t. f t ++ ys) is'

one_variable : (x y : VarName) (xs ys : List VarName) → x ∷ xs ≡ y ∷ ys → Same x y xs ys
one_variable x y xs ys e = (cc, cc)

module _ (a b : Names) where
  mutual
    pub one_term : (t : Tree) (u w : term.Tree) (xs ys : List VarName) → Says a t u → Says b t w → variables u ++ xs ≡ variables w ++ ys → Same u w xs ys
    one_term (variable v) u w xs ys h k e =
        let first = one_variable h.0 k.0 xs ys (known variables u (term.variable h.0) w (term.variable k.0) xs ys h.1 k.1 e) in
        (h.1 ∙ ap term.variable first.0 ∙ sym k.1, first.1)
    one_term (integer n) u w xs ys h k e = (h ∙ sym k, known variables u (term.integer n) w (term.integer n) xs ys h k e)
    one_term (structure f ts) u w xs ys h k e =
        let inner = known variables u (node f (trees h.0)) w (node f (trees k.0)) xs ys h.1 k.1 e in
        let listed = ap (λ l. l ++ xs) (sym (variables_of_trees h.0)) ∙ inner ∙ ap (λ l. l ++ ys) (variables_of_trees k.0) in
        let rest = one_list ts h.0 k.0 xs ys h.2 k.2 listed in
        (h.1 ∙ ap (λ l. node f (trees l)) rest.0 ∙ sym k.1, rest.1)
    one_term empty u w xs ys h k e = (h ∙ sym k, known variables u term.nil w term.nil xs ys h k e)
    one_term (cell t rest) u w xs ys h k e =
        let inner = known variables u (cons h.0 h.1) w (cons k.0 k.1) xs ys h.2 k.2 e in
        let split = apart (variables h.0) (variables h.1 ++ []) (variables k.0) (variables k.1 ++ []) xs ys inner in
        let first = one_term t h.0 k.0 (variables h.1 ++ [] ++ xs) (variables k.1 ++ [] ++ ys) h.3 k.3 split in
        let second = one_term rest h.1 k.1 xs ys h.4 k.4 (apart (variables h.1) [] (variables k.1) [] xs ys first.1) in
        (h.2 ∙ (λ i. cons (first.0 i) (second.0 i)) ∙ sym k.2, second.1)

    pub one_list : (ts : Trees) (us ws : List term.Tree) (xs ys : List VarName) → SaysAll a ts us → SaysAll b ts ws → variables_of_list us ++ xs ≡ variables_of_list ws ++ ys → Same us ws xs ys
    one_list none us ws xs ys h k e = (h ∙ sym k, known variables_of_list us [] ws [] xs ys h k e)
    one_list (some t ts) us ws xs ys h k e =
        let inner = known variables_of_list us (h.0 ∷ h.1) ws (k.0 ∷ k.1) xs ys h.2 k.2 e in
        let split = apart (variables h.0) (variables_of_list h.1) (variables k.0) (variables_of_list k.1) xs ys inner in
        let first = one_term t h.0 k.0 (variables_of_list h.1 ++ xs) (variables_of_list k.1 ++ ys) h.3 k.3 split in
        let second = one_list ts h.1 k.1 xs ys h.4 k.4 first.1 in
        (h.2 ∙ (λ i. first.0 i ∷ second.0 i) ∙ sym k.2, second.1)

  one_expression : (v : Value) (u w : Expression) (xs ys : List VarName) → SaysValue a v u → SaysValue b v w → variables_of_expression u ++ xs ≡ variables_of_expression w ++ ys → Same u w xs ys
  one_expression (number n) u w xs ys h k e = (h ∙ sym k, known variables_of_expression u (leaf (term.integer n)) w (leaf (term.integer n)) xs ys h k e)
  one_expression (named v) u w xs ys h k e =
      let first = one_variable h.0 k.0 xs ys (known variables_of_expression u (leaf (term.variable h.0)) w (leaf (term.variable k.0)) xs ys h.1 k.1 e) in
      (h.1 ∙ ap (λ x. leaf (term.variable x)) first.0 ∙ sym k.1, first.1)
  one_expression (product o l r) u w xs ys h k e =
      let f = operation (product_operator o) in
      let inner = known variables_of_expression u (f h.0 h.1) w (f k.0 k.1) xs ys h.2 k.2 e in
      let split = apart (variables_of_expression h.0) (variables_of_expression h.1) (variables_of_expression k.0) (variables_of_expression k.1) xs ys inner in
      let first = one_expression l h.0 k.0 (variables_of_expression h.1 ++ xs) (variables_of_expression k.1 ++ ys) h.3 k.3 split in
      let second = one_expression r h.1 k.1 xs ys h.4 k.4 first.1 in
      (h.2 ∙ (λ i. f (first.0 i) (second.0 i)) ∙ sym k.2, second.1)
  one_expression (sum o l r) u w xs ys h k e =
      let f = operation (sum_operator o) in
      let inner = known variables_of_expression u (f h.0 h.1) w (f k.0 k.1) xs ys h.2 k.2 e in
      let split = apart (variables_of_expression h.0) (variables_of_expression h.1) (variables_of_expression k.0) (variables_of_expression k.1) xs ys inner in
      let first = one_expression l h.0 k.0 (variables_of_expression h.1 ++ xs) (variables_of_expression k.1 ++ ys) h.3 k.3 split in
      let second = one_expression r h.1 k.1 xs ys h.4 k.4 first.1 in
      (h.2 ∙ (λ i. f (first.0 i) (second.0 i)) ∙ sym k.2, second.1)

  one_goal : (g : Goal) (u w : goal.Goal) (xs ys : List VarName) → SaysGoal a g u → SaysGoal b g w → variables_of_goal u ++ xs ≡ variables_of_goal w ++ ys → Same u w xs ys
  one_goal (call c) u w xs ys h k e =
      let inner = known variables_of_goal u (goal.call c.name h.0) w (goal.call c.name k.0) xs ys h.1 k.1 e in
      let rest = one_list c.arguments h.0 k.0 xs ys h.2 k.2 inner in
      (h.1 ∙ ap (goal.call c.name) rest.0 ∙ sym k.1, rest.1)
  one_goal (unify s t) u w xs ys h k e =
      let inner = known variables_of_goal u (goal.unify h.0 h.1) w (goal.unify k.0 k.1) xs ys h.2 k.2 e in
      let split = apart (variables h.0) (variables h.1) (variables k.0) (variables k.1) xs ys inner in
      let first = one_term s h.0 k.0 (variables h.1 ++ xs) (variables k.1 ++ ys) h.3 k.3 split in
      let second = one_term t h.1 k.1 xs ys h.4 k.4 first.1 in
      (h.2 ∙ (λ i. goal.unify (first.0 i) (second.0 i)) ∙ sym k.2, second.1)
  one_goal (assign v t) u w xs ys h k e =
      let f = λ (x : VarName). goal.assign (term.variable x) in
      let inner = known variables_of_goal u (f h.0 h.1) w (f k.0 k.1) xs ys h.2 k.2 e in
      let first = one_variable h.0 k.0 (variables_of_expression h.1 ++ xs) (variables_of_expression k.1 ++ ys) inner in
      let second = one_expression t h.1 k.1 xs ys h.4 k.4 first.1 in
      (h.2 ∙ (λ i. f (first.0 i) (second.0 i)) ∙ sym k.2, second.1)

  one_guard : (t : Test) (u w : Guard) (xs ys : List VarName) → SaysGuard a t u → SaysGuard b t w → variables_of_guard u ++ xs ≡ variables_of_guard w ++ ys → Same u w xs ys
  one_guard (plain g) u w xs ys h k e =
      let inner = known variables_of_guard u (item h.0) w (item k.0) xs ys h.1 k.1 e in
      let rest = one_goal g h.0 k.0 xs ys h.2 k.2 inner in
      (h.1 ∙ ap item rest.0 ∙ sym k.1, rest.1)
  one_guard (compare l o r) u w xs ys h k e =
      let inner = known variables_of_guard u (comparison o h.0 h.1) w (comparison o k.0 k.1) xs ys h.2 k.2 e in
      let split = apart (leaf_variables h.0) (leaf_variables h.1) (leaf_variables k.0) (leaf_variables k.1) xs ys inner in
      let first = by_leaves l h.0 k.0 (leaf_variables h.1 ++ xs) (leaf_variables k.1 ++ ys) h.3 k.3 split in
      let second = by_leaves r h.1 k.1 xs ys h.4 k.4 first.1 in
      (h.2 ∙ (λ i. comparison o (first.0 i) (second.0 i)) ∙ sym k.2, second.1)
    where
      by_leaves : (v : Value) (f g : Expression) (vs ws : List VarName) → SaysValue a v f → SaysValue b v g → leaf_variables f ++ vs ≡ leaf_variables g ++ ws → Same f g vs ws
      by_leaves v f g vs ws m n e =
          one_expression v f g vs ws m n (ap (λ l. l ++ vs) (sym (leaves_are_all v a f m)) ∙ e ∙ ap (λ l. l ++ ws) (leaves_are_all v b g n))

  pub one_guards : (ts : List Test) (us ws : List Guard) (xs ys : List VarName) → Each (SaysGuard a) ts us → Each (SaysGuard b) ts ws → variables_of_guards us ++ xs ≡ variables_of_guards ws ++ ys → Same us ws xs ys
  one_guards [] [] [] xs ys h k e = (refl, e)
  one_guards (t ∷ ts) (u ∷ us) (w ∷ ws) xs ys h k e =
      let split = apart (variables_of_guard u) (variables_of_guards us) (variables_of_guard w) (variables_of_guards ws) xs ys e in
      let first = one_guard t u w (variables_of_guards us ++ xs) (variables_of_guards ws ++ ys) h.0 k.0 split in
      let second = one_guards ts us ws xs ys h.1 k.1 first.1 in
      ((λ i. first.0 i ∷ second.0 i), second.1)
  one_guards [] (u ∷ us) ws xs ys h k e = absurd h
  one_guards (t ∷ ts) [] ws xs ys h k e = absurd h
  one_guards ts us ws xs ys h k e = absurd k

  pub one_body : (gs : List Goal) (us ws : List goal.Goal) → Each (SaysGoal a) gs us → Each (SaysGoal b) gs ws → variables_of_goals us ≡ variables_of_goals ws → us ≡ ws
  one_body [] [] [] h k e = refl
  one_body (g ∷ gs) (u ∷ us) (w ∷ ws) h k e =
      let first = one_goal g u w (variables_of_goals us) (variables_of_goals ws) h.0 k.0 e in
      let second = one_body gs us ws h.1 k.1 first.1 in
      λ i. first.0 i ∷ second i
  one_body [] (u ∷ us) ws h k e = absurd h
  one_body (g ∷ gs) [] ws h k e = absurd h
  one_body gs us ws h k e = absurd k

  -- ---- the goals of a query

  -- After n streams, the k-th stream of the goals is stream n + k.
  abbrev CountFrom : ℕ → List goal.Goal → Type 0
  CountFrom n gs = (i k : ℕ) (x : VarName) → slice_get (filter is_stream gs) i ≡ Some (goal.stream k x) → k ≡ n + (i + 1)

  -- The goals are one and the variables after them too, and the goals after them are counted from one number on.
  record AskedAlike (n : ℕ) (u w : goal.Goal) (us ws : List goal.Goal) (xs ys : List VarName) : Type 0 where
    same : Same u w xs ys
    count : ℕ
    left : CountFrom count us
    right : CountFrom count ws

  no_stream_first : (n : ℕ) (u : goal.Goal) (us : List goal.Goal) → is_stream u ≡ false → CountFrom n (u ∷ us) → CountFrom n us
  no_stream_first n u us absent count i k x e =
      count i k x (ap (λ t. slice_get (cond t (u ∷ filter is_stream us) (filter is_stream us)) i) absent ∙ e)

  stream_first : (n k : ℕ) (x : VarName) (us : List goal.Goal) → CountFrom n (goal.stream k x ∷ us) → (k ≡ n + 1) × CountFrom (n + 1) us
  stream_first n k x us count = (count zero k x refl ∙ omega arith, λ i l y e. count (suc i) l y e ∙ omega arith)

  one_asked_by : (o : Option (List ℕ)) (g : Goal) (n : ℕ) (u w : goal.Goal) (us ws : List goal.Goal) (xs ys : List VarName)
      → MatchOption o (SaysGoal a g u) (λ v. (k : ℕ) × (x : VarName) × (u ≡ goal.stream k x) × IsCalled a v x)
      → MatchOption o (SaysGoal b g w) (λ v. (k : ℕ) × (x : VarName) × (w ≡ goal.stream k x) × IsCalled b v x)
      → CountFrom n (u ∷ us) → CountFrom n (w ∷ ws) → variables_of_goal u ++ xs ≡ variables_of_goal w ++ ys → AskedAlike n u w us ws xs ys
  one_asked_by None g n u w us ws xs ys h k c d e = record {
    same = one_goal g u w xs ys h k e;
    count = n;
    left = no_stream_first n u us (no_stream g a u h) c;
    right = no_stream_first n w ws (no_stream g b w k) d;
  }
  one_asked_by (Some v) g n u w us ws xs ys h k c d e =
      let first = one_variable h.1 k.1 xs ys (known variables_of_goal u (goal.stream h.0 h.1) w (goal.stream k.0 k.1) xs ys h.2 k.2 e) in
      let left = stream_first n h.0 h.1 us (subst (λ t. CountFrom n (t ∷ us)) h.2 c) in
      let right = stream_first n k.0 k.1 ws (subst (λ t. CountFrom n (t ∷ ws)) k.2 d) in
      let numbers : h.0 ≡ k.0 = left.0 ∙ sym right.0 in
      record {
        same = (h.2 ∙ (λ i. goal.stream (numbers i) (first.0 i)) ∙ sym k.2, first.1);
        count = n + 1;
        left = left.1;
        right = right.1;
      }

  one_asked : (n : ℕ) (gs : List Goal) (us ws : List goal.Goal) → Each (SaysAsked a) gs us → Each (SaysAsked b) gs ws → CountFrom n us → CountFrom n ws → variables_of_goals us ≡ variables_of_goals ws → us ≡ ws
  one_asked n [] [] [] h k c d e = refl
  one_asked n (g ∷ gs) (u ∷ us) (w ∷ ws) h k c d e =
      let first = one_asked_by (tail_of g) g n u w us ws (variables_of_goals us) (variables_of_goals ws) h.0 k.0 c d e in
      let second = one_asked first.count gs us ws h.1 k.1 first.left first.right first.same.1 in
      λ i. first.same.0 i ∷ second i
  one_asked n [] (u ∷ us) ws h k c d e = absurd h
  one_asked n (g ∷ gs) [] ws h k c d e = absurd h
  one_asked n gs us ws h k c d e = absurd k

  pub one_question : (gs : List Goal) (us ws : List goal.Goal) → Each (SaysAsked a) gs us → Each (SaysAsked b) gs ws → AreCounted us → AreCounted ws → variables_of_goals us ≡ variables_of_goals ws → us ≡ ws
  one_question gs us ws h k c d e = one_asked 0 gs us ws h k (λ i l x f. c i l x f ∙ omega arith) (λ i l x f. d i l x f ∙ omega arith) e
