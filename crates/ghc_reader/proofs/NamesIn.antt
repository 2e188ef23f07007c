-- The names that stand in a parse tree, in order; and what says the tree has variables that are called so, in order.
use Rattle.ghc_reader.proofs.Words.{◌≡◌, ℕ, List, [], ◌∷◌, ◌++◌, Bool, true, false, cond, Option, Some, None, refl, sym, ap, ◌∙◌, subst, arith, MatchOption, ◌&&◌, not, bytes_eq, nat_eq, codes, flat_map, append-nil, nat_tests, VarName, variables_of_list, variables_of_expression, leaf_variables, variables_of_goal, variables_of_goals, Guard, Tree, Trees, structure, cell, none, some, Value, number, named, product, sum, Goal, WrittenClause, WrittenQuery, variables_of_guard, variables_of_guards, variables_of_written, Names, IsCalled, SaysBy, SaysAllBy, SaysValueBy, SaysGoalBy, SaysValue, SaysGoal, SaysAsked, SaysGuard, SaysClause, SaysQuery, Each, first_variable, tail_of, is_true, doing, count, names as names_in, names_of as names_in_all, names_in as names_in_value, names_of_goal as names_in_goal, names_of_goals, names_of_test as names_in_test, names_of_clause}
use Rattle.ghc_term.specs.Tree as term
use Rattle.ghc_term.specs.Expression.{Expression}
use Rattle.ghc_term.specs.Goal as goal
use Rattle.ghc_term.specs.Variables.{variables}
use Rattle.ghc_reader.specs.Source.{variable, call, unify, assign, Test, plain, compare, Clause}
use Rattle.ghc_reader.specs.Reserved.{is_stream}
use Rattle.ghc_reader.proofs.TermsLowered.{variables_of_trees}
use Rattle.ghc_reader.proofs.ClausesLowered.{leaves_are_all}

-- ---- the names of the goals that do something are those of all

second : (a b : Bool) → (a && b) ≡ true → b ≡ true
second a b e = grind arith

no_arguments : (ts : Trees) → nat_eq (count ts) 0 ≡ true → names_in_all ts ≡ []
no_arguments none e = refl
no_arguments (some t ts) e = absurd (grind (arith, nat_tests, e))

-- `true` has no variables
true_names : (g : Goal) → is_true g ≡ true → names_in_goal g ≡ []
true_names (call c) e = no_arguments c.arguments (second (bytes_eq c.name (codes "true")) (nat_eq (count c.arguments) 0) e)
true_names (unify s t) e = cc
true_names (assign v a) e = cc

doing_names : (gs : List Goal) → flat_map names_in_goal (doing gs) ≡ names_of_goals gs
doing_names [] = refl
doing_names (g ∷ gs) = by_test (is_true g) refl (doing_names gs)
  where
    by_test : (b : Bool) → is_true g ≡ b → flat_map names_in_goal (doing gs) ≡ names_of_goals gs → flat_map names_in_goal (cond (not b) (g ∷ doing gs) (doing gs)) ≡ names_in_goal g ++ names_of_goals gs
    by_test true e same = same ∙ ap (λ l. l ++ names_of_goals gs) (sym (true_names g e))
    by_test false e same = ap (λ l. names_in_goal g ++ l) same

one_argument : (ts : Trees) (v : List ℕ) → nat_eq (count ts) 1 ≡ true → first_variable ts ≡ Some v → names_in_all ts ≡ v ∷ []
one_argument (some (variable w) none) v n e = let same : w ≡ v = cc in ap (λ x. x ∷ []) same
one_argument (some (variable w) (some t ts)) v n e = absurd (grind (arith, nat_tests, n))
one_argument ts v n e = cc

-- a stream has the variable of its tail
tail_names : (g : Goal) (v : List ℕ) → tail_of g ≡ Some v → names_in_goal g ≡ v ∷ []
tail_names (call c) v e = by_test (is_stream c) refl e
  where
    by_test : (b : Bool) → is_stream c ≡ b → cond b (first_variable c.arguments) None ≡ Some v → names_in_all c.arguments ≡ v ∷ []
    by_test true s e = one_argument c.arguments v (second (bytes_eq c.name (codes "instream")) (nat_eq (count c.arguments) 1) s) e
    by_test false s e = cc
tail_names (unify s t) v e = cc
tail_names (assign w a) v e = cc

-- ---- the variables are called so

each_join : {X Y : Type 0} (R : X → Y → Type 0) (xs ws : List X) (ys zs : List Y) → Each R xs ys → Each R ws zs → Each R (xs ++ ws) (ys ++ zs)
each_join R [] ws [] zs h k = k
each_join R (x ∷ xs) ws (y ∷ ys) zs h k = (h.0, each_join R xs ws ys zs h.1 k)
each_join R xs ws ys zs h k = absurd h

variables_of_goals_are : (gs : List goal.Goal) → flat_map variables_of_goal gs ≡ variables_of_goals gs
variables_of_goals_are [] = refl
variables_of_goals_are (g ∷ gs) = ap (λ xs. variables_of_goal g ++ xs) (variables_of_goals_are gs)

variables_of_guards_are : (gs : List Guard) → flat_map variables_of_guard gs ≡ variables_of_guards gs
variables_of_guards_are [] = refl
variables_of_guards_are (g ∷ gs) = ap (λ xs. variables_of_guard g ++ xs) (variables_of_guards_are gs)

-- C v x tells that the variable x is called v.
module _ (C : List ℕ → VarName → Type 0) where
  -- The variables are called the names, in order.
  abbrev AreCalled : Names → List VarName → Type 0
  AreCalled vs xs = Each C vs xs

  join : (vs ws : Names) (xs ys : List VarName) → AreCalled vs xs → AreCalled ws ys → AreCalled (vs ++ ws) (xs ++ ys)
  join vs ws xs ys h k = each_join C vs ws xs ys h k

  mutual
    called_term : (t : Tree) (u : term.Tree) → SaysBy C t u → AreCalled (names_in t) (variables u)
    called_term (variable v) u h = subst (λ w. AreCalled (v ∷ []) (variables w)) (sym h.1) (h.2, tt)
    called_term (structure f ts) u h = subst (AreCalled (names_in_all ts)) (sym (ap variables h.1 ∙ variables_of_trees h.0)) (called_terms ts h.0 h.2)
    called_term (cell t rest) u h =
        rw (h.2, append-nil (variables h.1)) (join _ _ _ _ (called_term t h.0 h.3) (called_term rest h.1 h.4))
    called_term t u h = subst (λ w. AreCalled [] (variables w)) (sym h) tt

    called_terms : (ts : Trees) (us : List term.Tree) → SaysAllBy C ts us → AreCalled (names_in_all ts) (variables_of_list us)
    called_terms none us h = subst (λ w. AreCalled [] (variables_of_list w)) (sym h) tt
    called_terms (some t ts) us h =
        rw h.2 (join (names_in t) (names_in_all ts) (variables h.0) (variables_of_list h.1) (called_term t h.0 h.3) (called_terms ts h.1 h.4))

  called_value : (v : Value) (e : Expression) → SaysValueBy C v e → AreCalled (names_in_value v) (variables_of_expression e)
  called_value (number n) e h = subst (λ w. AreCalled [] (variables_of_expression w)) (sym h) tt
  called_value (named v) e h = subst (λ w. AreCalled (v ∷ []) (variables_of_expression w)) (sym h.1) (h.2, tt)
  called_value (product o a b) e h =
      rw h.2 (join _ _ _ _ (called_value a h.0 h.3) (called_value b h.1 h.4))
  called_value (sum o a b) e h =
      rw h.2 (join _ _ _ _ (called_value a h.0 h.3) (called_value b h.1 h.4))

  called_goal : (g : Goal) (w : goal.Goal) → SaysGoalBy C g w → AreCalled (names_in_goal g) (variables_of_goal w)
  called_goal (call c) w h = subst (λ x. AreCalled (names_in_all c.arguments) (variables_of_goal x)) (sym h.1) (called_terms c.arguments h.0 h.2)
  called_goal (unify s t) w h =
      rw h.2 (join (names_in s) (names_in t) (variables h.0) (variables h.1) (called_term s h.0 h.3) (called_term t h.1 h.4))
  called_goal (assign v e) w h = subst (λ x. AreCalled (v ∷ names_in_value e) (variables_of_goal x)) (sym h.2) (h.3, called_value e h.1 h.4)

  -- of each in a list
  called_each : {X Y : Type 0} (R : X → Y → Type 0) (f : X → Names) (g : Y → List VarName) → ((x : X) (y : Y) → R x y → AreCalled (f x) (g y)) → (xs : List X) (ys : List Y) → Each R xs ys → AreCalled (flat_map f xs) (flat_map g ys)
  called_each R f g one [] [] h = tt
  called_each R f g one (x ∷ xs) (y ∷ ys) h = join (f x) (flat_map f xs) (g y) (flat_map g ys) (one x y h.0) (called_each R f g one xs ys h.1)
  called_each R f g one xs ys h = absurd h

  called_goals : (gs : List Goal) (ws : List goal.Goal) → Each (SaysGoalBy C) gs ws → AreCalled (flat_map names_in_goal gs) (variables_of_goals ws)
  called_goals gs ws h = subst (AreCalled (flat_map names_in_goal gs)) (variables_of_goals_are ws) (called_each (SaysGoalBy C) names_in_goal variables_of_goal called_goal gs ws h)

module _ (names : Names) where
  called_by_tail : (o : Option (List ℕ)) (g : Goal) (w : goal.Goal) → tail_of g ≡ o → MatchOption o (SaysGoal names g w) (λ v. (k : ℕ) × (x : VarName) × (w ≡ goal.stream k x) × IsCalled names v x) → AreCalled (IsCalled names) (names_in_goal g) (variables_of_goal w)
  called_by_tail None g w e h = called_goal (IsCalled names) g w h
  called_by_tail (Some v) g w e h = subst (λ x. AreCalled (IsCalled names) (names_in_goal g) (variables_of_goal x)) (sym h.2) (subst (λ vs. AreCalled (IsCalled names) vs (h.1 ∷ [])) (sym (tail_names g v e)) (h.3, tt))

  called_guard : (t : Test) (w : Guard) → SaysGuard names t w → AreCalled (IsCalled names) (names_in_test t) (variables_of_guard w)
  called_guard (plain g) w h = subst (λ x. AreCalled (IsCalled names) (names_in_goal g) (variables_of_guard x)) (sym h.1) (called_goal (IsCalled names) g h.0 h.2)
  called_guard (compare a o b) w h =
      rw h.2 (join (IsCalled names) _ _ _ _ (called_leaves a h.0 h.3) (called_leaves b h.1 h.4))
    where
      called_leaves : (v : Value) (e : Expression) → SaysValue names v e → AreCalled (IsCalled names) (names_in_value v) (leaf_variables e)
      called_leaves v e k = subst (AreCalled (IsCalled names) (names_in_value v)) (sym (leaves_are_all v names e k)) (called_value (IsCalled names) v e k)

  called_guards : (ts : List Test) (ws : List Guard) → Each (SaysGuard names) ts ws → AreCalled (IsCalled names) (flat_map names_in_test ts) (variables_of_guards ws)
  called_guards ts ws h = subst (AreCalled (IsCalled names) (flat_map names_in_test ts)) (variables_of_guards_are ws) (called_each (IsCalled names) (SaysGuard names) names_in_test variables_of_guard called_guard ts ws h)

  called_asked : (gs : List Goal) (ws : List goal.Goal) → Each (SaysAsked names) gs ws → AreCalled (IsCalled names) (flat_map names_in_goal gs) (variables_of_goals ws)
  called_asked gs ws h =
      rw (variables_of_goals_are ws) at
      (called_each (IsCalled names) (SaysAsked names) names_in_goal variables_of_goal (λ g w s. called_by_tail (tail_of g) g w refl s) gs ws h)

-- The variables of a written clause are called as the names in its parse tree.
pub clause_called : (c : Clause) (w : WrittenClause) → SaysClause c w → Each (IsCalled w.variables) (names_of_clause c) (variables_of_written w)
clause_called c w s =
    let n = w.variables in
    let head = called_terms (IsCalled n) c.head.arguments w.head s.head in
    let guards = called_guards n c.guard w.guards s.guards in
    let body = subst (λ vs. Each (IsCalled n) vs (variables_of_goals w.body)) (doing_names c.body) (called_goals (IsCalled n) (doing c.body) w.body s.body) in
    let front = join (IsCalled n) (names_in_all c.head.arguments) (flat_map names_in_test c.guard) (variables_of_list w.head) (variables_of_guards w.guards) head guards in
    join (IsCalled n) (names_in_all c.head.arguments ++ flat_map names_in_test c.guard) (names_of_goals c.body) (variables_of_list w.head ++ variables_of_guards w.guards) (variables_of_goals w.body) front body

-- The variables of a written query are called as the names in its parse trees.
pub query_called : (gs : List Goal) (q : WrittenQuery) → SaysQuery gs q → Each (IsCalled q.variables) (names_of_goals gs) (variables_of_goals q.goals)
query_called gs q s = subst (λ vs. Each (IsCalled q.variables) vs (variables_of_goals q.goals)) (doing_names gs) (called_asked q.variables (doing gs) q.goals s.goals)

-- The variables of what is asked for in mid-run are called as the names in its parse trees.
pub asked_called : (C : List ℕ → VarName → Type 0) (gs : List Goal) (ws : List goal.Goal) → Each (SaysGoalBy C) (doing gs) ws → Each C (names_of_goals gs) (variables_of_goals ws)
asked_called C gs ws h = subst (λ vs. Each C vs (variables_of_goals ws)) (doing_names gs) (called_goals C (doing gs) ws h)
