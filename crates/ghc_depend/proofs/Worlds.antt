-- Two worlds: what the steps of a part know, and what the others know. Only what is within the part's goal is in both.
use Rattle.ghc_depend.proofs.Words.{◌≡◌, ◌⊎◌, List, [], ◌∷◌, ◌++◌, append_assoc, refl, sym, ap, ◌∙◌, subst, inl, inr, Some, None, Option, option_or, IsTrue, VarName, GoalName, Tree, Goal, In, in_left, in_right, in_more, IsAcyclic, value_at, name_cmp, goal_cmp, Decided, Program, Query, IsProgram, IsQuery, State, Record, after, without_goal, Fires, Runs, query_state, Replays, Binds, MakesVariable, bound_at, made_or_old, of_query as variable_of_query, replay_well}
use Rattle.std.specs.FinMap as finite
use Rattle.std.specs.FinSet as set
use Rattle.ghc_term.specs.Bindings.{here}
use Rattle.ghc_term.proofs.Chains.{reaches_on}
use Rattle.ghc_flat.specs.Variables.{variables_of_goal}
use Rattle.ghc_fire.proofs.Origins.{Inside}
use Rattle.ghc_records.proofs.Effects.{kept_goal}
use Rattle.ghc_records.proofs.Heads.{of_goals}
use Rattle.ghc_records.specs.Replay.{Names}
use Rattle.ghc_depend.specs.Depend.{Descends, itself, made_by}
use Rattle.ghc_depend.specs.Parts.{IsOfPart, IsWithinGoal, NoAskReachesInto}
use Rattle.ghc_depend.proofs.Comparing.{bound_value}
use Rattle.ghc_depend.proofs.Finding.{by_option, makes_at, own, own_made, same_value, not_both}
use Rattle.ghc_depend.proofs.Results.{Results, taken_at, bound_by, goal_by, of_query, at_first, firing}
use Rattle.ghc_depend.proofs.Placing.{place_of, front_in, numbered_once, results_of, stepped}
use Rattle.ghc_depend.proofs.Working.{acyclic_part}
use Rattle.ghc_depend.proofs.Turning.{no_query}
use Rattle.ghc_depend.proofs.Parting.{known_part}
use Rattle.ghc_depend.proofs.Within.{binds_in, makes_in, reads_in, unnamed}

-- where a step's bindings lie over those of a store
pub over : (P : Type 0) (a b : Option Tree) (t : Tree) → option_or a b ≡ Some t → (a ≡ Some t → P) → (a ≡ None → b ≡ Some t → P) → P
over P None b t e f g = g refl e
over P (Some u) b t e f g = f e

-- a goal, b under the name g, that the step r took, and into whose part no ask reaches
pub record TookGoal (rs : List Record) (r : Record) (g : GoalName) (b : Goal) : Type 0 where
  pub kept : In r rs
  pub took : r.goal ≡ Some g
  pub had : r.consumed ≡ Some b
  pub left_alone : NoAskReachesInto rs g

module _ (P : Program) (query : Query) (rs : List Record) (t : State) (accepted : IsProgram P) (asked : IsQuery P query) (replay : Replays P query rs t)
    (r : Record) (g : GoalName) (b : Goal) (call : TookGoal rs r g b) where
  abbrev pub S : VarName → Option Tree
  S = value_at t.store

  pub full : Results query rs t
  full = results_of P query rs t replay

  pub acyclic : IsAcyclic S
  acyclic = (replay_well P query rs t accepted asked replay).acyclic

  pub known : (q : Record) → In q rs → Decided (IsOfPart rs g q)
  known = known_part P query rs t replay g

  -- within the goal, or made by the part
  abbrev pub MadeIn : VarName → Type 0
  MadeIn x = (q : Record) × In q rs × IsOfPart rs g q × MakesVariable q x

  abbrev pub Inner : VarName → Type 0
  Inner x = IsWithinGoal S b x ⊎ MadeIn x

  abbrev pub Outer : VarName → Type 0
  Outer x = IsWithinGoal S b x ⊎ (¬ MadeIn x)

  both : (x : VarName) → Inner x → Outer x → IsWithinGoal S b x
  both x (inl w) o = w
  both x (inr m) (inl w) = w
  both x (inr m) (inr n) = absurd (n m)

  within_on : (y : VarName) (u : Tree) → IsWithinGoal S b y → S y ≡ Some u → Inside (IsWithinGoal S b) u
  within_on y u w e x o = (w.0, w.1, reaches_on w.2 e (here o))

  -- what is bound after some of the steps is so at the end
  pub at_last : (done : List Record) (s : State) → Results query done s → ((q : Record) → In q done → In q rs) → (x : VarName) (u : Tree) → value_at s.store x ≡ Some u → S x ≡ Some u
  at_last done s h of_rs x u e = let c = bound_by query done s h x u e in full.bound c.0 x u (of_rs c.0 c.1) c.2

  -- the goal g is b wherever it is there
  pub named_once : (done : List Record) (s : State) → Results query done s → ((q : Record) → In q done → In q rs) → (c : Goal) → finite.get s.goals g ≡ Some c → c ≡ b
  named_once done s h of_rs c e =
      let p = place_of P query rs t replay r call.kept in
      let k = taken_at P p.state r p.fires g call.took in
      let same : k.0 ≡ b = same_value k.2 call.had in
      let there : finite.get p.state.goals g ≡ Some b = k.1 ∙ ap Some same in
      elim (goal_by query done s h g c e) [
        | inl m ↦ elim (goal_by query p.before p.state p.results g b there) [
          | inl n ↦
              let one : n.0 ≡ m.0 = numbered_once P query rs t replay m.0 n.0 (of_rs m.0 m.1) (front_in P query rs t replay r n.0 p n.1) (sym (own_made m.0 g c m.2).0 ∙ (own_made n.0 g b n.2).0) in
              same_value m.2 (subst (λ z. own z g ≡ Some b) one n.2)
          | inr n ↦ absurd (no_query _ _ (of_query query g b n.1) (own_made m.0 g c m.2).0 (replay.0.0 m.0 (of_rs m.0 m.1)).0)
        ]
        | inr m ↦ elim (goal_by query p.before p.state p.results g b there) [
          | inl n ↦ absurd (no_query _ _ (of_query query g c m.1) (own_made n.0 g b n.2).0 (replay.0.0 n.0 (front_in P query rs t replay r n.0 p n.1)).0)
          | inr n ↦ same_value m.1 n.1
        ]
      ]

  -- the goals that are there and the values of the store keep to their worlds
  pub record Apart (s : State) : Type 0 where
    pub inner_goals : (k : GoalName) (c : Goal) → finite.get s.goals k ≡ Some c → Descends rs g k → (x : VarName) → In x (variables_of_goal c) → Inner x
    pub outer_goals : (k : GoalName) (c : Goal) → finite.get s.goals k ≡ Some c → ¬ Descends rs g k → (x : VarName) → In x (variables_of_goal c) → Outer x
    pub inner_values : (y : VarName) (u : Tree) → Inner y → value_at s.store y ≡ Some u → Inside Inner u
    pub outer_values : (y : VarName) (u : Tree) → Outer y → value_at s.store y ≡ Some u → Inside Outer u

  -- what a step reads and binds, and the values that it binds, are in Q
  pub record KeepsTo (Q : VarName → Type 0) (q : Record) : Type 0 where
    pub reads : (x : VarName) → IsTrue (set.contains q.effect.reads x) → Q x
    pub binds : (x : VarName) (u : Tree) → value_at q.effect.binds x ≡ Some u → Q x × Inside Q u
    pub makes : (h : GoalName) (c : Goal) (y : VarName) → own q h ≡ Some c → In y (variables_of_goal c) → Q y

  -- a step of the part keeps to the inner world, and another to the outer one
  pub record KeepsToItsWorld (q : Record) : Type 0 where
    pub inner : IsOfPart rs g q → KeepsTo Inner q
    pub outer : ¬ IsOfPart rs g q → KeepsTo Outer q

  -- at a step
  module _ (done rest : List Record) (s : State) (q : Record) (split : rs ≡ done ++ q ∷ rest) (h : Results query done s) (fired : Fires P s q) (a : Apart s) where
    q_in : In q rs
    q_in = subst (In q) (sym split) (in_right done (q ∷ rest) q (inl refl))

    of_done : (m : Record) → In m done → In m rs
    of_done m i = subst (In m) (sym split) (in_left done (q ∷ rest) m i)

    shut_in : IsAcyclic (value_at s.store)
    shut_in = acyclic_part (value_at s.store) S (at_last done s h of_done) acyclic

    inner_step : IsOfPart rs g q → KeepsTo Inner q
    inner_step part =
        let goal : (k : GoalName) (c : Goal) (y : VarName) → q.goal ≡ Some k → finite.get s.goals k ≡ Some c → In y (variables_of_goal c) → Inner y =
        λ k c y e f i. a.inner_goals k c f (subst (Descends rs g) (same_value part.1 e) part.2) y i in
        let new : (y : VarName) → MakesVariable q y → Inner y = λ y m. inr (q, q_in, part, m) in
        let named : (y : VarName) → Names q y → Inner y = λ y n. elim (firing P s q fired) [
          | inl step ↦ absurd (unnamed P step.goal q.act q.number (value_at s.store) q.effect step.effect y n.0)
          | inr asks ↦ absurd (not_both part.1 asks.none)
        ] in
        record {
          reads = reads_in P accepted s q fired shut_in Inner a.inner_values goal new named;
          binds = binds_in P accepted s q fired shut_in Inner a.inner_values goal new named;
          makes = makes_in P accepted s q fired shut_in Inner a.inner_values goal new named;
        }

    outer_step : ¬ IsOfPart rs g q → KeepsTo Outer q
    outer_step other =
        let goal : (k : GoalName) (c : Goal) (y : VarName) → q.goal ≡ Some k → finite.get s.goals k ≡ Some c → In y (variables_of_goal c) → Outer y =
        λ k c y e f i. a.outer_goals k c f (λ d. other (k, e, d)) y i in
        let new : (y : VarName) → MakesVariable q y → Outer y = λ y m. inr (λ n. other (subst (IsOfPart rs g) (numbered_once P query rs t replay q n.0 q_in n.1 (sym m.0 ∙ n.3.0)) n.2)) in
        let named : (y : VarName) → Names q y → Outer y = λ y n. inr (λ m. call.left_alone q q_in (m.0, y, m.1, m.2, (n, m.3))) in
        record {
          reads = reads_in P accepted s q fired shut_in Outer a.outer_values goal new named;
          binds = binds_in P accepted s q fired shut_in Outer a.outer_values goal new named;
          makes = makes_in P accepted s q fired shut_in Outer a.outer_values goal new named;
        }

    keeps : KeepsToItsWorld q
    keeps = record { inner = inner_step; outer = outer_step }

    more : Results query (done ++ q ∷ []) (after s q)
    more = stepped P query rs replay.0 done rest q s split h fired

    of_more : (m : Record) → In m (done ++ q ∷ []) → In m rs
    of_more m i = elim (in_more done q m i) [ inl j ↦ of_done m j | inr same ↦ subst (λ z. In z rs) (sym same) q_in ]

    -- a goal that is there after the step was made by it, or was there
    goal_after : (C : Type 0) (k : GoalName) (c : Goal) → finite.get (after s q).goals k ≡ Some c → (own q k ≡ Some c → C) → (finite.get s.goals k ≡ Some c → C) → C
    goal_after C k c e f old =
        let at = makes_at q.number 1 q.effect.makes (without_goal q.goal s.goals) k in
        by_option (own q k)
        (λ n. old (kept_goal s.goals q.goal k c (sym (at ∙ ap (λ o. option_or o (finite.get (without_goal q.goal s.goals) k)) n) ∙ e)))
        (λ d m. f (m ∙ sym (at ∙ ap (λ o. option_or o (finite.get (without_goal q.goal s.goals) k)) m) ∙ e))

    inner_made : (k : GoalName) (c : Goal) → finite.get (after s q).goals k ≡ Some c → own q k ≡ Some c → Descends rs g k → (x : VarName) → In x (variables_of_goal c) → Inner x
    inner_made k c there e itself x i = inl (x, subst (λ z. In x (variables_of_goal z)) (named_once (done ++ q ∷ []) (after s q) more of_more c there) i, here refl)
    inner_made k c there e (made_by m j makes took d) x i =
        let one : m ≡ q = numbered_once P query rs t replay q m q_in j (sym (own_made q k c e).0 ∙ makes.0) in
        (inner_step (_, sym (ap (λ (z : Record). z.goal) one) ∙ took, d)).makes k c x e i

    outer_made : (k : GoalName) (c : Goal) → own q k ≡ Some c → ¬ Descends rs g k → (x : VarName) → In x (variables_of_goal c) → Outer x
    outer_made k c e n x i = (outer_step (λ part. n (made_by q q_in (own_made q k c e) part.1 part.2))).makes k c x e i

    -- a new value
    inner_bound : (y : VarName) (u : Tree) → Inner y → value_at q.effect.binds y ≡ Some u → Inside Inner u
    inner_bound y u w e = elim (known q q_in) [
      | inl part ↦ ((inner_step part).binds y u e).1
      | inr other ↦ λ x o. inl (within_on y u (both y w ((outer_step other).binds y u e).0) (full.bound q y u q_in e) x o)
    ]

    outer_bound : (y : VarName) (u : Tree) → Outer y → value_at q.effect.binds y ≡ Some u → Inside Outer u
    outer_bound y u w e = elim (known q q_in) [
      | inl part ↦ λ x o. inl (within_on y u (both y ((inner_step part).binds y u e).0 w) (full.bound q y u q_in e) x o)
      | inr other ↦ ((outer_step other).binds y u e).1
    ]

    value_after : (C : Type 0) (y : VarName) (u : Tree) → value_at (after s q).store y ≡ Some u → (value_at q.effect.binds y ≡ Some u → C) → (value_at s.store y ≡ Some u → C) → C
    value_after C y u e f old = over C (value_at q.effect.binds y) (value_at s.store y) u (sym (bound_at q.effect.binds s.store y) ∙ e) f (λ _ m. old m)

    apart_after : Apart (after s q)
    apart_after = record {
      inner_goals = λ k c e d x i. goal_after (Inner x) k c e (λ m. inner_made k c e m d x i) (λ m. a.inner_goals k c m d x i);
      outer_goals = λ k c e n x i. goal_after (Outer x) k c e (λ m. outer_made k c m n x i) (λ m. a.outer_goals k c m n x i);
      inner_values = λ y u w e x o. value_after (Inner x) y u e (λ m. inner_bound y u w m x o) (λ m. a.inner_values y u w m x o);
      outer_values = λ y u w e x o. value_after (Outer x) y u e (λ m. outer_bound y u w m x o) (λ m. a.outer_values y u w m x o);
    }

  -- the goals of the query
  of_query_outer : (k : GoalName) (c : Goal) → finite.get (query_state query).goals k ≡ Some c → (x : VarName) → In x (variables_of_goal c) → ¬ MadeIn x
  of_query_outer k c e x i m = elim (made_or_old 0 1 query finite.empty k c e) [
    | inl p ↦ no_query _ _ (variable_of_query P query x asked (of_goals query c x p.1 i)) m.3.0 (replay.0.0 m.0 m.1).0
    | inr n ↦ not_both n (finite.get-empty goal_cmp k)
  ]

  inner_first : (k : GoalName) (c : Goal) → finite.get (query_state query).goals k ≡ Some c → Descends rs g k → (x : VarName) → In x (variables_of_goal c) → Inner x
  inner_first k c e itself x i = inl (x, subst (λ z. In x (variables_of_goal z)) (named_once [] (query_state query) (at_first query) (λ q j. absurd j) c e) i, here refl)
  inner_first k c e (made_by m j makes took d) x i = absurd (no_query _ _ (of_query query k c e) makes.0 (replay.0.0 m j).0)

  apart_first : Apart (query_state query)
  apart_first = record {
    inner_goals = inner_first;
    outer_goals = λ k c e n x i. inr (of_query_outer k c e x i);
    inner_values = λ y u w e. absurd (not_both e (finite.get-empty name_cmp y));
    outer_values = λ y u w e. absurd (not_both e (finite.get-empty name_cmp y));
  }

  all_keep : (done rest : List Record) (s : State) → rs ≡ done ++ rest → Results query done s → Apart s → Runs P s rest t → (q : Record) → In q rest → KeepsToItsWorld q
  all_keep done [] s e h a run q i = absurd i
  all_keep done (m ∷ rest) s e h a run q (inl same) = subst KeepsToItsWorld (sym same) (keeps done rest s m e h run.0 a)
  all_keep done (m ∷ rest) s e h a run q (inr i) =
      all_keep (done ++ m ∷ []) rest (after s m) (e ∙ sym (append_assoc done (m ∷ []) rest)) (more done rest s m e h run.0 a) (apart_after done rest s m e h run.0 a) run.1 q i

  worlds : (q : Record) → In q rs → KeepsToItsWorld q
  worlds = all_keep [] rs (query_state query) refl (at_first query) apart_first replay.1

  -- what a step of the part reads and another bound, or the other way round, is within the goal
  pub read_across : (c a : Record) (x : VarName) → In c rs → In a rs → IsOfPart rs g c → ¬ IsOfPart rs g a → IsTrue (set.contains c.effect.reads x) → Binds a x → IsWithinGoal S b x
  read_across c a x i j part other read binds =
      let u = bound_value a x binds in
      both x (((worlds c i).inner part).reads x read) (((worlds a j).outer other).binds x u.0 u.1).0

  pub read_back : (c a : Record) (x : VarName) → In c rs → In a rs → ¬ IsOfPart rs g c → IsOfPart rs g a → IsTrue (set.contains c.effect.reads x) → Binds a x → IsWithinGoal S b x
  read_back c a x i j other part read binds =
      let u = bound_value a x binds in
      both x (((worlds a j).inner part).binds x u.0 u.1).0 (((worlds c i).outer other).reads x read)
