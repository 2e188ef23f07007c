-- Sets of goals with one goal more or less.
use Rattle.ghc_hooks.proofs.Words.{◌≡◌, List, true, false, refl, sym, ap, ◌∙◌, inl, inr, ◌⊎◌, ◌↔◌, IsTrue, eq_by_cmp, eq_by_cmp_equiv, or_cases, or_right, VarName, GoalName, name_cmp, list_any-from_Contains, Contains-from_any, In, in_contains, contains_in, same_name, goal_cmp, goal_total, same_goal, GoalNames, Ordering, IsTotalOrder, IsAntisymmetric, tells_apart, goal_antisymmetric, arith, ℕ, zero, suc, ◌+◌, ◌-◌, ◌<◌, cond, not_both}
use Rattle.std.specs.FinSet as set
pub use Rattle.ghc_term.proofs.GoalNames.{itself as goal_itself}
use Rattle.ghc_term.proofs.GoalNames.{apart}
use Rattle.std.proofs.lemmas.Bool.{and_from, and_parts, not_from_false, or_left}

-- a test fails or its subjects are one
pub goal_cases : (h g : GoalName) → (h ≡ g) ⊎ (eq_by_cmp goal_cmp h g ≡ false)
goal_cases h g = elim (eq_by_cmp goal_cmp h g) as (λ b. eq_by_cmp goal_cmp h g ≡ b → (h ≡ g) ⊎ (b ≡ false)) [ true ↦ λ e. inl (same_goal h g e) | false ↦ λ e. inr refl ] refl

pub name_cases : (y x : VarName) → (y ≡ x) ⊎ (eq_by_cmp name_cmp y x ≡ false)
name_cases y x = elim (eq_by_cmp name_cmp y x) as (λ b. eq_by_cmp name_cmp y x ≡ b → (y ≡ x) ⊎ (b ≡ false)) [ true ↦ λ e. inl (same_name y x e) | false ↦ λ e. inr refl ] refl

-- what is in a set with one member more
pub member_put : {K : Type 0} {R : K → K → Ordering} (o : IsTotalOrder R) (alike : IsAntisymmetric R) (s : set.FinSet R) (k q : K)
    → IsTrue (set.contains (set.insert s k) q) ↔ (IsTrue (set.contains s q) ⊎ (q ≡ k))
member_put {R = R} o alike s k q =
    let is = set.contains-insert o s k q in
    let same : eq_by_cmp R q k ≡ true → q ≡ k = tells_apart alike q k in
    let tied : q ≡ k → eq_by_cmp R q k ≡ true = λ e. ap (eq_by_cmp R q) (sym e) ∙ (eq_by_cmp_equiv o).refl q in
    grind (arith, or_cases, or_left, or_right)

-- what is in a set of goals with one goal more or less
pub goal_put : (s : GoalNames) (g h : GoalName) → IsTrue (set.contains (set.insert s g) h) ↔ (IsTrue (set.contains s h) ⊎ (h ≡ g))
goal_put = member_put goal_total goal_antisymmetric

pub goal_taken : (s : GoalNames) (g h : GoalName) → IsTrue (set.contains (set.remove s g) h) ↔ (IsTrue (set.contains s h) × ¬ (h ≡ g))
goal_taken s g h = grind (arith, set.contains-remove, goal_total, apart, and_from, and_parts, not_from_false)

-- how many goals are left where one is taken out
pub one_less : (u : GoalNames) (g : GoalName) → IsTrue (set.contains u g) → set.len (set.remove u g) + 1 ≡ set.len u
one_less u g there =
    let less : set.len (set.remove u g) ≡ set.len u - 1 = set.len-remove goal_total u g ∙ ap (λ b. cond b (set.len u - 1) (set.len u)) there in
    let some : 0 < set.len u = by (set.len u) refl in
    omega (arith, less, some)
  where
    by : (k : ℕ) → set.len u ≡ k → 0 < k
    by zero z = absurd (not_both (set.contains u g) (ap (λ s. set.contains s g) (set.empty_of_len u z) ∙ set.contains-empty goal_cmp g) there)
    by (suc k) z = omega arith

-- a list of goals and the set of them
pub goal_in_set : (g : GoalName) (gs : List GoalName) → In g gs → IsTrue (set.contains (set.from_list {R = goal_cmp} gs) g)
goal_in_set g gs i = set.contains-from_list goal_total gs g ∙ list_any-from_Contains (eq_by_cmp_equiv goal_total) g gs (in_contains gs g i)

pub set_in_goals : (g : GoalName) (gs : List GoalName) → IsTrue (set.contains (set.from_list {R = goal_cmp} gs) g) → In g gs
set_in_goals g gs c = contains_in gs g (Contains-from_any same_goal g gs (sym (set.contains-from_list goal_total gs g) ∙ c))
