-- The effect of a proposal as a step of some number has it.
use Rattle.ghc_fire.proofs.Words.{◌≡◌, ℕ, ◌==◌, true, false, List, [], ◌∷◌, map, refl, sym, ap, ◌∙◌, Some, None, unwrap_or, if◌then◌else◌, eqb-true, VarName, Tree, variable, integer, node, Trees, none, more, Expression, leaf, operation, Goal, call, unify, assign, stream, StoreValue, value_at, Clause, fresh_variables, replace, replace_all, replace_in_expression, replace_in_goal, made, place_in, becomes, body_made, ByClause as by_clause, Unified as unified, Assigned as assigned, no_step, CallAnswers, ChoiceAnswers, UnificationAnswers, AssignmentAnswers, numbered, under, EffectUnderANumber, ProposalIsEffect, ProposalAsAStep}
use Rattle.ghc_fire.proofs.Origins.{Inside, at_inside}
use Rattle.ghc_fire.proofs.Rebuilding.{replace_kept}
use Rattle.ghc_fire.proofs.Steps.{effect_each}

-- the variable is not of a step
abbrev IsNotOf : ℕ → VarName → Type 0
IsNotOf m x = ¬ (x.step ≡ m)

-- a variable of a step keeps its name
same_variable : (n : ℕ) (x : VarName) → IsNotOf no_step x → numbered n x ≡ variable x
same_variable n x o =
    elim (x.step == no_step) as (λ b. (x.step == no_step) ≡ b → (if b then variable (made n x.place) else variable x) ≡ variable x) [
      | true ↦ λ p. absurd (o (eqb-true x.step no_step p))
      | false ↦ λ _. refl
    ] refl

-- one replacement after another is a third
module _ (s u w : VarName → Tree) (both : (y : VarName) → replace s (u y) ≡ w y) where
  mutual
    tree_twice : (t : Tree) → replace s (replace u t) ≡ replace w t
    tree_twice (variable y) = both y
    tree_twice (integer k) = refl
    tree_twice (node f ts) = ap (node f) (trees_twice ts)

    trees_twice : (ts : Trees) → replace_all s (replace_all u ts) ≡ replace_all w ts
    trees_twice none = refl
    trees_twice (more t ts) = let head = tree_twice t in let tail = trees_twice ts in cc

  list_twice : (ts : List Tree) → map (replace s) (map (replace u) ts) ≡ map (replace w) ts
  list_twice [] = refl
  list_twice (t ∷ ts) = let head = tree_twice t in let tail = list_twice ts in cc

  expression_twice : (a : Expression) → replace_in_expression s (replace_in_expression u a) ≡ replace_in_expression w a
  expression_twice (leaf t) = ap leaf (tree_twice t)
  expression_twice (operation o a b) = let left = expression_twice a in let right = expression_twice b in cc

  goal_twice : (g : Goal) → replace_in_goal s (replace_in_goal u g) ≡ replace_in_goal w g
  goal_twice (call f ts) = ap (call f) (list_twice ts)
  goal_twice (unify l r) = let left = tree_twice l in let right = tree_twice r in cc
  goal_twice (assign t a) = let left = tree_twice t in let right = expression_twice a in cc
  goal_twice (stream k x) = refl

  pub goals_twice : (gs : List Goal) → map (replace_in_goal s) (map (replace_in_goal u) gs) ≡ map (replace_in_goal w) gs
  goals_twice [] = refl
  goals_twice (g ∷ gs) = let head = goal_twice g in let tail = goals_twice gs in cc

-- what a variable of the clause becomes under any number, as step n has it, is what it becomes in step n
becomes_under : (c : Clause) (theta : StoreValue) (n : ℕ) → ((y : VarName) (t : Tree) → value_at theta y ≡ Some t → Inside (IsNotOf no_step) t) → (y : VarName) → replace (numbered n) (becomes c theta no_step y) ≡ becomes c theta n y
becomes_under c theta n h y =
    elim (value_at theta y) as (λ o. value_at theta y ≡ o → replace (numbered n) (unwrap_or o (variable (made no_step (place_in (fresh_variables c) y)))) ≡ unwrap_or o (variable (made n (place_in (fresh_variables c) y)))) [
      | None ↦ λ _. refl
      | Some t ↦ λ p. replace_kept (numbered n) t (λ x i. same_variable n x (h y t p x i))
    ] refl

body_under : (c : Clause) (theta : StoreValue) (n : ℕ) → ((y : VarName) (t : Tree) → value_at theta y ≡ Some t → Inside (IsNotOf no_step) t) → body_made c theta n ≡ map (replace_in_goal (numbered n)) (body_made c theta no_step)
body_under c theta n h = sym (goals_twice (numbered n) (becomes c theta no_step) (becomes c theta n) (becomes_under c theta n h) c.body)

nothing_under : (n : ℕ) (gs : List Goal) → gs ≡ [] → map (replace_in_goal (numbered n)) gs ≡ []
nothing_under n gs p = ap (map (replace_in_goal (numbered n))) p

pub effect_under : EffectUnderANumber
effect_under P (call f ts) (by_clause k) n S e plain h d =
    let made_there : (under n e).makes ≡ body_made d.0 d.1 n =
    ap (map (replace_in_goal (numbered n))) d.6
    ∙ sym (body_under d.0 d.1 n (λ y t p. at_inside h.values ((d.4.1 y t).0 p).2 h.goal)) in
    (d.0, d.1, d.2, d.3, d.4, d.5, made_there, d.7)
effect_under P (unify l r) unified n S e plain h d = (d.0, nothing_under n e.makes d.1, d.2)
effect_under P (assign t a) assigned n S e plain h d = (d.0, d.1, d.2, d.3, d.4, nothing_under n e.makes d.5, d.6)
effect_under P (stream k x) a n S e plain h d = let clash : true ≡ false = plain in cc
effect_under P g a n S e plain h d = absurd d

pub proposal_under : ProposalIsEffect
proposal_under P (call f ts) None a n S e h (CallAnswers.by_least {k = k} l d) = effect_under P (call f ts) (by_clause k) n S e refl h d
proposal_under P (call f ts) (Some k) a n S e h (ChoiceAnswers.by_choice d) = effect_under P (call f ts) (by_clause k) n S e refl h d
proposal_under P (unify l r) None a n S e h (UnificationAnswers.solves d) = effect_under P (unify l r) unified n S e refl h d
proposal_under P (assign t b) None a n S e h (AssignmentAnswers.assigns d) = effect_under P (assign t b) assigned n S e refl h d
proposal_under P g choice a n S e h p = cc

pub proposal_as : ProposalAsAStep
proposal_as P (call f ts) None a n S e (CallAnswers.by_least {k = k} l d) = let u = effect_each P (call f ts) (by_clause k) n no_step S e d in (d, (u.0, CallAnswers.by_least l u.1))
proposal_as P (call f ts) (Some k) a n S e (ChoiceAnswers.by_choice d) = let u = effect_each P (call f ts) (by_clause k) n no_step S e d in (d, (u.0, ChoiceAnswers.by_choice u.1))
proposal_as P (unify l r) None a n S e (UnificationAnswers.solves d) = (d, (e, UnificationAnswers.solves d))
proposal_as P (assign t b) None a n S e (AssignmentAnswers.assigns d) = (d, (e, AssignmentAnswers.assigns d))
proposal_as P g choice a n S e p = cc
