-- Goals whose variables are replaced: what becomes of their variables, their kinds and their calls.
use Rattle.ghc_fire.proofs.Words.{◌≡◌, ℕ, true, false, List, [], ◌∷◌, ◌++◌, length, map, refl, ap, ◌∙◌, inl, inr, arith, filter, map-append, length-map, VarName, Tree, variable, integer, node, Trees, none, more, Expression, leaf, operation, Goal, call, unify, assign, stream, In, variables, variables_of_all, variables_of_expression, variables_of_goal, variables_of_goals, replace, replace_all, is_stream, replace_in_expression, replace_in_goal}
use Rattle.ghc_term.specs.Variables.{variables_of_list}
use Rattle.ghc_fire.proofs.Rebuilding.{replace_kept}

-- joined where both parts are
joined : (f : VarName → VarName) {us vs : List VarName} (xs ys : List VarName) → us ≡ map f xs → vs ≡ map f ys → us ++ vs ≡ map f (xs ++ ys)
joined f {us} {vs} xs ys p q = rw (map-append f xs ys) (λ i. p i ++ q i)

-- where none of the goals is a stream, neither the first nor any after it is one
pub no_stream : (g : Goal) (gs : List Goal) → filter is_stream (g ∷ gs) ≡ [] → (is_stream g ≡ false) × (filter is_stream gs ≡ [])
no_stream (stream k x) gs p = cc
no_stream _ gs p = (refl, p)

module _ (f : VarName → VarName) where
  -- each variable as f renames it
  abbrev pub by : VarName → Tree
  by x = variable (f x)

  mutual
    tree_renamed : (t : Tree) → variables (replace by t) ≡ map f (variables t)
    tree_renamed (variable x) = refl
    tree_renamed (integer k) = refl
    tree_renamed (node g ts) = all_renamed ts

    all_renamed : (ts : Trees) → variables_of_all (replace_all by ts) ≡ map f (variables_of_all ts)
    all_renamed none = refl
    all_renamed (more t ts) = joined f (variables t) (variables_of_all ts) (tree_renamed t) (all_renamed ts)

  list_renamed : (ts : List Tree) → variables_of_list (map (replace by) ts) ≡ map f (variables_of_list ts)
  list_renamed [] = refl
  list_renamed (t ∷ ts) = joined f (variables t) (variables_of_list ts) (tree_renamed t) (list_renamed ts)

  expression_renamed : (a : Expression) → variables_of_expression (replace_in_expression by a) ≡ map f (variables_of_expression a)
  expression_renamed (leaf t) = tree_renamed t
  expression_renamed (operation o a b) = joined f (variables_of_expression a) (variables_of_expression b) (expression_renamed a) (expression_renamed b)

  goal_renamed : (g : Goal) → is_stream g ≡ false → variables_of_goal (replace_in_goal by g) ≡ map f (variables_of_goal g)
  goal_renamed (call h ts) p = list_renamed ts
  goal_renamed (unify l r) p = joined f (variables l) (variables r) (tree_renamed l) (tree_renamed r)
  goal_renamed (assign t a) p = joined f (variables t) (variables_of_expression a) (tree_renamed t) (expression_renamed a)
  goal_renamed (stream k x) p = let clash : true ≡ false = p in cc

  -- the variables of renamed goals, none of which is a stream, are the renamed ones
  pub goals_renamed : (gs : List Goal) → filter is_stream gs ≡ [] → variables_of_goals (map (replace_in_goal by) gs) ≡ map f (variables_of_goals gs)
  goals_renamed [] p = refl
  goals_renamed (g ∷ gs) p = let n = no_stream g gs p in joined f (variables_of_goal g) (variables_of_goals gs) (goal_renamed g n.0) (goals_renamed gs n.1)

module _ (s : VarName → Tree) where
  kept_kind : (g : Goal) → is_stream (replace_in_goal s g) ≡ is_stream g
  kept_kind (call f ts) = refl
  kept_kind _ = refl

  pub kept_plain : (gs : List Goal) → filter is_stream gs ≡ [] → filter is_stream (map (replace_in_goal s) gs) ≡ []
  kept_plain [] p = refl
  kept_plain (g ∷ gs) p = let none = no_stream g gs p in rw (kept_kind g ∙ none.0) (kept_plain gs none.1)

  -- a call among replaced goals is one of as many arguments
  pub call_replaced : (gs : List Goal) (f : List ℕ) (ts : List Tree) → In (call f ts) (map (replace_in_goal s) gs) → (us : List Tree) × In (call f us) gs × (length us ≡ length ts)
  call_replaced [] f ts i = absurd i
  call_replaced (g ∷ gs) f ts (inr i) = let r = call_replaced gs f ts i in (r.0, inr r.1, r.2)
  call_replaced (call h us ∷ gs) f ts (inl e) =
      let name : f ≡ h = cc in
      let arguments : ts ≡ map (replace s) us = cc in
      (us, inl (ap (λ k. call k us) name), omega (arith, ap length arguments, length-map us (replace s)))
  call_replaced (_ ∷ gs) f ts (inl e) = cc

-- replaced by themselves, they stay
same_tree : (t : Tree) → replace variable t ≡ t
same_tree t = replace_kept variable t (λ x o. refl)

same_list : (ts : List Tree) → map (replace variable) ts ≡ ts
same_list [] = refl
same_list (t ∷ ts) = let head = same_tree t in let tail = same_list ts in cc

same_expression : (a : Expression) → replace_in_expression variable a ≡ a
same_expression (leaf t) = ap leaf (same_tree t)
same_expression (operation o a b) = let left = same_expression a in let right = same_expression b in cc

same_goal : (g : Goal) → replace_in_goal variable g ≡ g
same_goal (call f ts) = ap (call f) (same_list ts)
same_goal (unify l r) = let left = same_tree l in let right = same_tree r in cc
same_goal (assign t a) = let left = same_tree t in let right = same_expression a in cc
same_goal (stream k x) = refl

pub same_goals : (gs : List Goal) → map (replace_in_goal variable) gs ≡ gs
same_goals [] = refl
same_goals (g ∷ gs) = let head = same_goal g in let tail = same_goals gs in cc
