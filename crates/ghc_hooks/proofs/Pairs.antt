-- Pairs in order, and tables whose keys are pairs.
use Rattle.ghc_hooks.proofs.Words.{◌≡◌, ℕ, Bool, true, false, cond, ◌&&◌, List, [], ◌∷◌, map, refl, sym, ap, ◌∙◌, nat_eq, Option, Some, Ordering, lookup, option_map, nat_cmp, eq_by_cmp, is_eq, IsTotalOrder, nat_cmp_total, tied_then, IsAntisymmetric, nat_cmp-IsAntisymmetric, then_total, on_total, GoalName, VarName, name_cmp, tie, same as same_name, name_total, name_antisymmetric, goal_cmp, goal_total, goal_antisymmetric, same_is as goal_is, pair_cmp, outcomes_found, Tried, outcome_of, value_is, inserted, both, arith}
use Rattle.std.specs.FinMap as finite
use Rattle.ghc_term.proofs.Entries.{same_is as name_is}
use Rattle.ghc_fire.proofs.GoalNames.{same as same_goal}

module _ {A B : Type 0} (R : A → A → Ordering) (S : B → B → Ordering) where
  pair_total : IsTotalOrder R → IsTotalOrder S → IsTotalOrder (pair_cmp R S)
  pair_total a b = then_total (on_total (λ (p : A × B). p.0) a) (on_total (λ (p : A × B). p.1) b)

  pair_antisymmetric : IsAntisymmetric R → IsAntisymmetric S → IsAntisymmetric (pair_cmp R S)
  pair_antisymmetric a b p q e = grind (arith, both)

  pair_same : (f : A → A → Bool) (g : B → B → Bool) → ((x y : A) → f x y ≡ eq_by_cmp R x y) → ((x y : B) → g x y ≡ eq_by_cmp S x y) → (p q : A × B) → (f p.0 q.0 && g p.1 q.1) ≡ eq_by_cmp (pair_cmp R S) p q
  pair_same f g a b p q = ap (λ c. c && g p.1 q.1) (a p.0 q.0) ∙ ap (λ c. is_eq (R p.0 q.0) && c) (b p.1 q.1) ∙ tied_then (R p.0 q.0) (S p.1 q.1)

-- pairs of a variable and a goal
pub hook_total : IsTotalOrder (pair_cmp name_cmp goal_cmp)
hook_total = pair_total name_cmp goal_cmp name_total goal_total

pub hook_antisymmetric : IsAntisymmetric (pair_cmp name_cmp goal_cmp)
hook_antisymmetric = pair_antisymmetric name_cmp goal_cmp name_antisymmetric goal_antisymmetric

abbrev pub same_hook : VarName × GoalName → VarName × GoalName → Bool
same_hook p q = (nat_eq p.0.step q.0.step && nat_eq p.0.place q.0.place) && (nat_eq p.1.step q.1.step && nat_eq p.1.place q.1.place)

pub same_hook_is : (p q : VarName × GoalName) → same_hook p q ≡ eq_by_cmp (pair_cmp name_cmp goal_cmp) p q
same_hook_is = pair_same name_cmp goal_cmp same_name same_goal name_is goal_is

-- pairs of a goal and the number of a clause
pub clause_total : IsTotalOrder (pair_cmp goal_cmp nat_cmp)
clause_total = pair_total goal_cmp nat_cmp goal_total nat_cmp_total

pub clause_antisymmetric : IsAntisymmetric (pair_cmp goal_cmp nat_cmp)
clause_antisymmetric = pair_antisymmetric goal_cmp nat_cmp goal_antisymmetric nat_cmp-IsAntisymmetric

abbrev pub same_clause : GoalName × ℕ → GoalName × ℕ → Bool
same_clause p q = (nat_eq p.0.step q.0.step && nat_eq p.0.place q.0.place) && nat_eq p.1 q.1

pub same_clause_is : (p q : GoalName × ℕ) → same_clause p q ≡ eq_by_cmp (pair_cmp goal_cmp nat_cmp) p q
same_clause_is = pair_same goal_cmp nat_cmp same_goal nat_eq goal_is tie

-- what a map of the values of a table gives
mapped_cond : {X Y : Type 0} (f : X → Y) (b : Bool) (x : X) (o : Option X) → cond b (Some (f x)) (option_map f o) ≡ option_map f (cond b (Some x) o)
mapped_cond f true x o = refl
mapped_cond f false x o = refl

module _ {K X Y : Type 0} (f : X → Y) where
  pub lookup_mapped : (test : K → Bool) (es : List (K × X)) → lookup test (map (λ (e : K × X). (e.0, f e.1)) es) ≡ option_map f (lookup test es)
  lookup_mapped test [] = refl
  lookup_mapped test (e ∷ es) = ap (cond (test e.0) (Some (f e.1))) (lookup_mapped test es) ∙ mapped_cond f (test e.0) e.1 (lookup test es)

-- a table of what was tried, with one entry more
pub outcome_inserted : (es new : List ((GoalName × ℕ) × Tried)) (k : GoalName × ℕ) (t : Tried) → ((q : GoalName × ℕ) → lookup (same_clause q) new ≡ cond (same_clause k q) (Some t) (lookup (same_clause q) es))
    → outcomes_found new ≡ finite.insert (outcomes_found es) k (outcome_of t)
outcome_inserted es new k t h = inserted clause_total clause_antisymmetric same_clause same_clause_is _ _ k (outcome_of t) (λ q.
    lookup_mapped outcome_of (same_clause q) new ∙ ap (option_map outcome_of) (h q) ∙ sym (mapped_cond outcome_of (same_clause k q) t (lookup (same_clause q) es)) ∙ ap (cond (same_clause k q) (Some (outcome_of t))) (sym (lookup_mapped outcome_of (same_clause q) es)))

-- what is found in it
pub outcome_found : (es : List ((GoalName × ℕ) × Tried)) (q : GoalName × ℕ) → option_map outcome_of (lookup (same_clause q) es) ≡ finite.get (outcomes_found es) q
outcome_found es q = sym (lookup_mapped outcome_of (same_clause q) es) ∙ value_is clause_total clause_antisymmetric same_clause same_clause_is q _
