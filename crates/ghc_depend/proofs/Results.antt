-- What stands in a state that a list of steps left, whatever their order.
use Rattle.ghc_depend.proofs.Words.{◌≡◌, ◌≤◌, ◌⊎◌, List, [], ◌∷◌, ◌++◌, refl, sym, ap, ◌∙◌, subst, inl, inr, arith, Some, None, Option, option_or, VarName, GoalName, Tree, Goal, In, name_cmp, value_at, in_left, in_right, Program, Query, holds_nothing, BindsAndReads, Act, Asked as asked, Asks, HasEffect, effect_binds, State, Record, after, without_goal, IsThere, HasStepEffect, Fires, query_state, bound_at, made_or_old, in_more}
use Rattle.std.specs.FinMap as finite
use Rattle.ghc_fire.proofs.Steps.{nothing}
use Rattle.ghc_depend.proofs.Finding.{by_option, not_both, same_value, find_value, own, makes_at, own_made, without_it, without_other, without_none}

-- the goal that a step consumed, as it was there, and the effect on it
pub record Taken (P : Program) (s : State) (r : Record) : Type 0 where
  pub name : GoalName
  pub goal : Goal
  pub named : r.goal ≡ Some name
  pub consumed : r.consumed ≡ Some goal
  pub there : finite.get s.goals name ≡ Some goal
  pub effect : HasEffect P goal r.act r.number (value_at s.store) r.effect

-- the step consumed none, and asks for goals
pub record IsAsking (P : Program) (r : Record) : Type 0 where
  pub goals : List Goal
  pub act : r.act ≡ asked goals
  pub none : r.goal ≡ None
  pub nothing : r.consumed ≡ None
  pub asks : Asks P goals r.number r.effect

-- a step consumes a goal, or asks for goals
pub firing : (P : Program) (s : State) (r : Record) → Fires P s r → Taken P s r ⊎ IsAsking P r
firing P s r f = by_goal r.goal r.consumed refl refl f.0 f.1
  where
    by_act : (a : Act) → r.act ≡ a → r.goal ≡ None → r.consumed ≡ None → HasStepEffect P None a r.number (value_at s.store) r.effect → IsAsking P r
    by_act (asked gs) e p q d = record { goals = gs; act = e; none = p; nothing = q; asks = d }
    by_act a e p q d = absurd d

    by_goal : (o : Option GoalName) (c : Option Goal) → r.goal ≡ o → r.consumed ≡ c → IsThere s.goals o c → HasStepEffect P c r.act r.number (value_at s.store) r.effect → Taken P s r ⊎ IsAsking P r
    by_goal None None p q e d = inr (by_act r.act refl p q d)
    by_goal None (Some b) p q e d = cc
    by_goal (Some g) None p q e d = let clash : None ≡ Some e.0 = e.1 in cc
    by_goal (Some g) (Some b) p q e d = inl (record { name = g; goal = b; named = p; consumed = q; there = (let same : b ≡ e.0 = cc in e.2 ∙ ap Some (sym same)); effect = d })

-- a step that consumes a goal of this name
pub taken : (P : Program) (s : State) (r : Record) → Fires P s r → (g : GoalName) → r.goal ≡ Some g → Taken P s r
taken P s r f g e = elim (firing P s r f) [ inl t ↦ t | inr a ↦ absurd (not_both e a.none) ]

-- the goal of this name is there, and was consumed
pub taken_at : (P : Program) (s : State) (r : Record) → Fires P s r → (g : GoalName) → r.goal ≡ Some g → (b : Goal) × (finite.get s.goals g ≡ Some b) × (r.consumed ≡ Some b)
taken_at P s r f g e = let t = taken P s r f g e in (t.goal, subst (λ z. finite.get s.goals z ≡ Some t.goal) (same_value t.named e) t.there, t.consumed)

pub fires : (P : Program) (v : State) (r : Record) (g : GoalName) (b : Goal) → r.goal ≡ Some g → r.consumed ≡ Some b → finite.get v.goals g ≡ Some b
    → HasEffect P b r.act r.number (value_at v.store) r.effect → Fires P v r
fires P v r g b p q e d =
    (subst (λ o. IsThere v.goals o r.consumed) (sym p) (b, q, e), subst (λ c. HasStepEffect P c r.act r.number (value_at v.store) r.effect) (sym q) d)

-- a step that asks for goals is possible in each state
pub asking_fires : (P : Program) (v : State) (r : Record) → IsAsking P r → Fires P v r
asking_fires P v r a = grind arith

-- what a step binds was unbound, and what it reads was bound
pub step_binds : (P : Program) (s : State) (r : Record) → Fires P s r → BindsAndReads (value_at s.store) r.effect.binds r.effect.reads
step_binds P s r f = grind (arith, firing, effect_binds, nothing, holds_nothing)

-- none of the steps consumed the goal
abbrev pub IsUntaken : List Record → GoalName → Type 0
IsUntaken done g = (r : Record) → In r done → ¬ (r.goal ≡ Some g)

-- none of the steps made the goal
abbrev pub IsUnmade : List Record → GoalName → Type 0
IsUnmade done g = (r : Record) → In r done → own r g ≡ None

-- the goal has the number of the query or of one of the steps
abbrev pub IsOld : List Record → GoalName → Type 0
IsOld done g = (g.step ≡ 0) ⊎ ((r : Record) × In r done × (g.step ≡ r.number))

-- From the goals of the query the steps left this state: each binding is there, each goal that one made and none consumed, and of the query's goals those that none consumed.
pub record Results (query : Query) (done : List Record) (s : State) : Type 0 where
  pub bound : (r : Record) (x : VarName) (t : Tree) → In r done → value_at r.effect.binds x ≡ Some t → value_at s.store x ≡ Some t
  pub unbound : (x : VarName) → ((r : Record) → In r done → value_at r.effect.binds x ≡ None) → value_at s.store x ≡ None
  pub consumed : (r : Record) (g : GoalName) → In r done → r.goal ≡ Some g → finite.get s.goals g ≡ None
  pub made : (r : Record) (g : GoalName) (b : Goal) → In r done → own r g ≡ Some b → IsUntaken done g → finite.get s.goals g ≡ Some b
  pub rest : (g : GoalName) → IsUnmade done g → IsUntaken done g → finite.get s.goals g ≡ finite.get (query_state query).goals g
  pub old : (r : Record) (g : GoalName) → In r done → r.goal ≡ Some g → IsOld done g

-- a goal of the query has the number 0
pub of_query : (query : Query) (g : GoalName) (b : Goal) → finite.get (query_state query).goals g ≡ Some b → g.step ≡ 0
of_query query g b e = elim (made_or_old 0 1 query finite.empty g b e) [
  | inl p ↦ p.0
  | inr n ↦ absurd (not_both n (finite.get-empty _ g))
]

-- no step made a goal of the query
pub query_unmade : (query : Query) (done : List Record) → ((r : Record) → In r done → 1 ≤ r.number)
    → (g : GoalName) (b : Goal) → finite.get (query_state query).goals g ≡ Some b → IsUnmade done g
query_unmade query done positive g b q r i = grind (arith, by_option, of_query, own_made)

pub at_first : (query : Query) → Results query [] (query_state query)
at_first query = record {
  bound = λ r x t i e. absurd i;
  unbound = λ x h. finite.get-empty name_cmp x;
  consumed = λ r g i e. absurd i;
  made = λ r g b i e u. absurd i;
  rest = λ g m u. refl;
  old = λ r g i e. absurd i;
}

module _ (query : Query) (done : List Record) (s : State) (h : Results query done s) where
  -- what is bound, a step bound
  pub bound_by : (x : VarName) (t : Tree) → value_at s.store x ≡ Some t → (r : Record) × In r done × (value_at r.effect.binds x ≡ Some t)
  bound_by x t e = elim (find_value (λ (r : Record). value_at r.effect.binds x) done) [
    | inl p ↦ (p.0, p.2, p.3 ∙ ap Some (same_value (h.bound p.0 x p.1 p.2 p.3) e))
    | inr n ↦ absurd (not_both e (h.unbound x n))
  ]

  pub untaken : (g : GoalName) (b : Goal) → finite.get s.goals g ≡ Some b → IsUntaken done g
  untaken g b e r i p = not_both e (h.consumed r g i p)

  -- a goal that is there was made by a step, or is the query's
  pub goal_by : (g : GoalName) (b : Goal) → finite.get s.goals g ≡ Some b
      → ((r : Record) × In r done × (own r g ≡ Some b)) ⊎ (IsUnmade done g × (finite.get (query_state query).goals g ≡ Some b))
  goal_by g b e = elim (find_value (λ (r : Record). own r g) done) [
    | inl p ↦ inl (p.0, p.2, p.3 ∙ ap Some (same_value (h.made p.0 g p.1 p.2 p.3 (untaken g b e)) e))
    | inr n ↦ inr (n, sym (h.rest g n (untaken g b e)) ∙ e)
  ]

  pub is_old : (g : GoalName) (b : Goal) → finite.get s.goals g ≡ Some b → IsOld done g
  is_old g b e = elim (goal_by g b e) [
    | inl p ↦ inr (p.0, p.1, (own_made p.0 g b p.2).0)
    | inr q ↦ inl (of_query query g b q.1)
  ]

  -- a step more
  module _ (P : Program) (r : Record) (f : Fires P s r) (positive : 1 ≤ r.number) (new : (m : Record) → In m done → ¬ (r.number ≡ m.number)) where
    v : State
    v = after s r

    -- no old goal has the number of the step
    not_old : (g : GoalName) → IsOld done g → ¬ (g.step ≡ r.number)
    not_old g (inl z) e = omega arith
    not_old g (inr m) e = new m.0 m.1 (sym e ∙ m.2)

    store_at : (x : VarName) → value_at (after s r).store x ≡ option_or (value_at r.effect.binds x) (value_at s.store x)
    store_at x = bound_at r.effect.binds s.store x

    goal_at : (g : GoalName) → finite.get (after s r).goals g ≡ option_or (own r g) (finite.get (without_goal r.goal s.goals) g)
    goal_at g = makes_at r.number 1 r.effect.makes (without_goal r.goal s.goals) g

    -- where the step makes nothing, the goals are the old ones without the one consumed
    goal_kept : (g : GoalName) → own r g ≡ None → finite.get (after s r).goals g ≡ finite.get (without_goal r.goal s.goals) g
    goal_kept g n = goal_at g ∙ ap (λ o. option_or o (finite.get (without_goal r.goal s.goals) g)) n

    old_unmade : (g : GoalName) → IsOld done g → own r g ≡ None
    old_unmade g o = by_option (own r g) (λ n. n) (λ b e. absurd (not_old g o (own_made r g b e).0))

    store_kept : (x : VarName) (u : Tree) → value_at s.store x ≡ Some u → value_at (after s r).store x ≡ Some u
    store_kept x u e =
        by_option (value_at r.effect.binds x)
        (λ n. store_at x ∙ ap (λ o. option_or o (value_at s.store x)) n ∙ e)
        (λ w b. absurd (not_both e ((step_binds P s r f).binds_new x w b)))

    taken_old : (g : GoalName) → r.goal ≡ Some g → IsOld done g
    taken_old g e = let t = taken_at P s r f g e in is_old g t.0 t.1

    either : (c : Record) → In c (done ++ r ∷ []) → In c done ⊎ (c ≡ r)
    either c i = in_more done r c i

    older : (g : GoalName) → IsOld done g → IsOld (done ++ r ∷ []) g
    older g (inl z) = inl z
    older g (inr m) = inr (m.0, in_left done (r ∷ []) m.0 m.1, m.2)

    itself : In r (done ++ r ∷ [])
    itself = in_right done (r ∷ []) r (inl refl)

    pub with_step : Results query (done ++ r ∷ []) (after s r)
    with_step = record {
      bound = λ c x u i e. elim (either c i) [
        | inl j ↦ store_kept x u (h.bound c x u j e)
        | inr same ↦ store_at x ∙ ap (λ o. option_or o (value_at s.store x)) (ap (λ (z : Record). value_at z.effect.binds x) (sym same) ∙ e)
      ];
      unbound = λ x k. store_at x ∙ ap (λ o. option_or o (value_at s.store x)) (k r itself) ∙ h.unbound x (λ c i. k c (in_left done (r ∷ []) c i));
      consumed = λ c g i e. elim (either c i) [
        | inl j ↦ goal_kept g (old_unmade g (h.old c g j e)) ∙ without_none r.goal s.goals g (h.consumed c g j e)
        | inr same ↦
            let mine : r.goal ≡ Some g = ap (λ (z : Record). z.goal) (sym same) ∙ e in
            goal_kept g (old_unmade g (taken_old g mine)) ∙ without_it r.goal s.goals g mine
      ];
      made = λ c g b i e u. elim (either c i) [
        | inl j ↦
            goal_kept g (by_option (own r g) (λ n. n) (λ w k. absurd (new c j (sym (own_made r g w k).0 ∙ (own_made c g b e).0))))
            ∙ without_other r.goal s.goals g (u r itself) ∙ h.made c g b j e (λ d k. u d (in_left done (r ∷ []) d k))
        | inr same ↦ goal_at g ∙ ap (λ o. option_or o (finite.get (without_goal r.goal s.goals) g)) (ap (λ z. own z g) (sym same) ∙ e)
      ];
      rest = λ g m u. goal_kept g (m r itself) ∙ without_other r.goal s.goals g (u r itself) ∙ h.rest g (λ d k. m d (in_left done (r ∷ []) d k)) (λ d k. u d (in_left done (r ∷ []) d k));
      old = λ c g i e. elim (either c i) [
        | inl j ↦ older g (h.old c g j e)
        | inr same ↦ older g (taken_old g (ap (λ (z : Record). z.goal) (sym same) ∙ e))
      ];
    }
