-- A part runs among the other steps from its goal alone and what that was given, and the others see only what it gave.
use Rattle.ghc_depend.proofs.Words.{◌≡◌, List, [], ◌∷◌, ◌++◌, append_assoc, append-nil, refl, sym, ap, ◌∙◌, subst, inl, inr, arith, Some, None, Option, option_or, is_some, IsTrue, VarName, GoalName, Tree, Goal, In, in_left, in_right, in_more, StoreValue, value_at, Decided, decided_both, decided_by, some_decided, true_decided, effect_local, Program, Query, IsProgram, IsQuery, State, Record, after, without_goal, Fires, Runs, query_state, Replays, Binds, bound_at}
use Rattle.std.specs.FinMap as finite
use Rattle.std.specs.FinSet as set
use Rattle.ghc_term.specs.Tree.{variable}
use Rattle.ghc_term.specs.Bindings.{Reaches}
use Rattle.ghc_term.specs.Store.{with_binds}
use Rattle.ghc_flat.specs.Variables.{variables_of_goal}
use Rattle.ghc_unify.proofs.Reached.{reaches_decided}
use Rattle.ghc_depend.specs.Depend.{Descends, itself, made_by}
use Rattle.ghc_depend.specs.Parts.{IsOfPart, IsWithinGoal, WasGiven, goal_alone, GainsGiven, RunsAmong, at_end, of_part, of_others, PartRunsAmongOthers, PartsRunAmongOthers, SeesWhatPartGave, OthersSeeWhatPartsGave}
use Rattle.ghc_depend.proofs.Decided.{decided_not}
use Rattle.ghc_depend.proofs.Finding.{by_option, goal_or_not, makes_at, own, own_made, same_value, not_both, without_it, without_other}
use Rattle.ghc_depend.proofs.Results.{Results, IsUntaken, Taken, bound_by, untaken, of_query, at_first, fires, step_binds, taken}
use Rattle.ghc_depend.proofs.Placing.{numbered_once, stepped}
use Rattle.ghc_depend.proofs.Turning.{no_query}
use Rattle.ghc_depend.proofs.Within.{narrowed, narrowed_less, only_goal}
use Rattle.ghc_depend.proofs.Worlds.{over, TookGoal, full, acyclic, known, named_once, read_across, read_back}

-- a step keeps what is bound
kept_bound : (P : Program) (v : State) (q : Record) → Fires P v q → (x : VarName) (u : Tree) → value_at v.store x ≡ Some u → value_at (after v q).store x ≡ Some u
kept_bound P v q f x u e = by_option (value_at q.effect.binds x)
    (λ n. bound_at q.effect.binds v.store x ∙ ap (λ o. option_or o (value_at v.store x)) n ∙ e)
    (λ w m. absurd (not_both e ((step_binds P v q f).binds_new x w m)))

new_bound : (v : State) (q : Record) (x : VarName) (u : Tree) → value_at q.effect.binds x ≡ Some u → value_at (after v q).store x ≡ Some u
new_bound v q x u e = bound_at q.effect.binds v.store x ∙ ap (λ o. option_or o (value_at v.store x)) e

-- the goals after a step: those that it made, and of the others those that it did not take
goal_made : (v : State) (q : Record) (k : GoalName) (c : Goal) → own q k ≡ Some c → finite.get (after v q).goals k ≡ Some c
goal_made v q k c e = makes_at q.number 1 q.effect.makes (without_goal q.goal v.goals) k ∙ ap (λ o. option_or o (finite.get (without_goal q.goal v.goals) k)) e

goal_left : (v : State) (q : Record) (k : GoalName) → own q k ≡ None → ¬ (q.goal ≡ Some k) → finite.get (after v q).goals k ≡ finite.get v.goals k
goal_left v q k e n =
    makes_at q.number 1 q.effect.makes (without_goal q.goal v.goals) k ∙ ap (λ o. option_or o (finite.get (without_goal q.goal v.goals) k)) e ∙ without_other q.goal v.goals k n

not_taken : (v : State) (q : Record) (k : GoalName) (c : Goal) → own q k ≡ None → finite.get (after v q).goals k ≡ Some c → ¬ (q.goal ≡ Some k)
not_taken v q k c e there took =
    not_both there (makes_at q.number 1 q.effect.makes (without_goal q.goal v.goals) k ∙ ap (λ o. option_or o (finite.get (without_goal q.goal v.goals) k)) e ∙ without_it q.goal v.goals k took)

module _ (P : Program) (query : Query) (rs : List Record) (t : State) (accepted : IsProgram P) (asked : IsQuery P query) (replay : Replays P query rs t)
    (r : Record) (g : GoalName) (b : Goal) (call : TookGoal rs r g b) where
  abbrev pub S : VarName → Option Tree
  S = value_at t.store

  abbrev pub G : VarName → Type 0
  G = WasGiven rs S g b

  pub part_known : (q : Record) → In q rs → Decided (IsOfPart rs g q)
  part_known = known P query rs t accepted asked replay r g b call

  abbrev end : Results query rs t
  end = full P query rs t accepted asked replay r g b call

  pub given_known : (x : VarName) → Decided (G x)
  given_known x = decided_both
      (some_decided (variables_of_goal b) (λ y. Reaches S (variable y) x) (λ y _. reaches_decided (finite.len t.store) t.store (omega arith) (acyclic P query rs t accepted asked replay r g b call) x (variable y)))
      (decided_by (λ p. (p.0, p.1, p.2.0, p.2.1)) (λ p. (p.0, p.1, (p.2, p.3))) (some_decided rs (λ q. (¬ IsOfPart rs g q) × Binds q x) (λ q i.
      decided_both (decided_not (part_known q i)) (true_decided (finite.contains_key q.effect.binds x)))))

  -- after the steps done, s is left by all, and v by those of the part, with what was given
  pub record Along (done : List Record) (s v : State) : Type 0 where
    pub goals : (k : GoalName) (c : Goal) → finite.get s.goals k ≡ Some c → Descends rs g k → ¬ (k ≡ g) → finite.get v.goals k ≡ Some c
    pub root : IsUntaken done g → finite.get v.goals g ≡ Some b
    pub own_bound : (q : Record) (x : VarName) (u : Tree) → In q done → IsOfPart rs g q → value_at q.effect.binds x ≡ Some u → value_at v.store x ≡ Some u
    pub given_bound : (q : Record) (x : VarName) (u : Tree) → In q done → G x → value_at q.effect.binds x ≡ Some u → value_at v.store x ≡ Some u
    pub less : (x : VarName) (u : Tree) → value_at v.store x ≡ Some u → value_at s.store x ≡ Some u

  module _ (done rest : List Record) (s v : State) (q : Record) (split : rs ≡ done ++ q ∷ rest) (h : Results query done s) (fired : Fires P s q) (a : Along done s v) where
    q_in : In q rs
    q_in = subst (In q) (sym split) (in_right done (q ∷ rest) q (inl refl))

    of_done : (m : Record) → In m done → In m rs
    of_done m i = subst (In m) (sym split) (in_left done (q ∷ rest) m i)

    more : Results query (done ++ q ∷ []) (after s q)
    more = stepped P query rs replay.0 done rest q s split h fired

    of_more : (m : Record) → In m (done ++ q ∷ []) → In m rs
    of_more m i = elim (in_more done q m i) [ inl j ↦ of_done m j | inr same ↦ subst (λ z. In z rs) (sym same) q_in ]

    is_root : (c : Goal) → finite.get (after s q).goals g ≡ Some c → c ≡ b
    is_root c e = named_once P query rs t accepted asked replay r g b call (done ++ q ∷ []) (after s q) more of_more c e

    still_untaken : IsUntaken (done ++ q ∷ []) g → IsUntaken done g
    still_untaken n m i = n m (in_left done (q ∷ []) m i)

    not_now : IsUntaken (done ++ q ∷ []) g → ¬ (q.goal ≡ Some g)
    not_now n = n q (in_right done (q ∷ []) q (inl refl))

    module _ (part : IsOfPart rs g q) where
      -- what it reads is there: the part bound it, or it was given
      reads_there : (x : VarName) (u : Tree) → value_at s.store x ≡ Some u → IsTrue (set.contains q.effect.reads x) → value_at v.store x ≡ Some u
      reads_there x u e i =
          let c = bound_by query done s h x u e in
          elim (part_known c.0 (of_done c.0 c.1)) [
            | inl p ↦ a.own_bound c.0 x u c.1 p c.2
            | inr other ↦ a.given_bound c.0 x u c.1 (read_across P query rs t accepted asked replay r g b call q c.0 x q_in (of_done c.0 c.1) part other i (ap is_some c.2), (c.0, of_done c.0 c.1, other, ap is_some c.2)) c.2
          ]

      goal_there : (step : Taken P s q) → finite.get v.goals step.name ≡ Some step.goal
      goal_there step = elim (goal_or_not step.name g) [
        | inl same ↦
            let there : finite.get s.goals g ≡ Some step.goal = subst (λ z. finite.get s.goals z ≡ Some step.goal) same step.there in
            let one = named_once P query rs t accepted asked replay r g b call done s h of_done step.goal there in
            subst (λ z. finite.get v.goals z ≡ Some step.goal) (sym same) (a.root (untaken query done s h g step.goal there) ∙ ap Some (sym one))
        | inr other ↦ a.goals step.name step.goal step.there (subst (Descends rs g) (same_value part.1 step.named) part.2) other
      ]

      fires_there : Fires P v q
      fires_there =
          let step = taken P s q fired part.0 part.1 in
          fires P v q step.name step.goal step.named step.consumed (goal_there step)
          (effect_local P step.goal q.act q.number (value_at s.store) (value_at v.store) q.effect step.effect (record {
            less = a.less;
            kept = λ x i. let w = (step_binds P s q fired).reads_bound x i in reads_there x w.0 w.1 i ∙ sym w.1;
          }))

      goals_on : (k : GoalName) (c : Goal) → finite.get (after s q).goals k ≡ Some c → Descends rs g k → ¬ (k ≡ g) → finite.get (after v q).goals k ≡ Some c
      goals_on k c e d other = by_option (own q k)
          (λ n. let free = not_taken s q k c n e in goal_left v q k n free ∙ a.goals k c (sym (goal_left s q k n free) ∙ e) d other)
          (λ w m. goal_made v q k w m ∙ sym (goal_made s q k w m) ∙ e)

      root_on : IsUntaken (done ++ q ∷ []) g → finite.get (after v q).goals g ≡ Some b
      root_on n = by_option (own q g)
          (λ none. goal_left v q g none (not_now n) ∙ a.root (still_untaken n))
          (λ w m. goal_made v q g w m ∙ ap Some (is_root w (goal_made s q g w m)))

      along_part : Along (done ++ q ∷ []) (after s q) (after v q)
      along_part = record {
        goals = goals_on;
        root = root_on;
        own_bound = λ m x u i p e. elim (in_more done q m i) [
          | inl j ↦ kept_bound P v q fires_there x u (a.own_bound m x u j p e)
          | inr same ↦ new_bound v q x u (subst (λ (z : Record). value_at z.effect.binds x ≡ Some u) same e)
        ];
        given_bound = λ m x u i w e. elim (in_more done q m i) [
          | inl j ↦ kept_bound P v q fires_there x u (a.given_bound m x u j w e)
          | inr same ↦ new_bound v q x u (subst (λ (z : Record). value_at z.effect.binds x ≡ Some u) same e)
        ];
        less = λ x u e. over (value_at (after s q).store x ≡ Some u) (value_at q.effect.binds x) (value_at v.store x) u (sym (bound_at q.effect.binds v.store x) ∙ e)
            (λ m. new_bound s q x u m) (λ _ m. kept_bound P s q fired x u (a.less x u m));
      }

    module _ (other : ¬ IsOfPart rs g q) where
      -- of its bindings those that were given
      given_part : (u : StoreValue) × (((x : VarName) → G x → value_at u x ≡ value_at q.effect.binds x) × ((x : VarName) → ¬ G x → value_at u x ≡ None))
      given_part = narrowed G given_known q.effect.binds

      abbrev gained : State
      gained = record { goals = v.goals; store = with_binds (finite.entries given_part.0) v.store }

      gained_at : (x : VarName) → value_at gained.store x ≡ option_or (value_at given_part.0 x) (value_at v.store x)
      gained_at x = bound_at given_part.0 v.store x

      given_of : (x : VarName) (u : Tree) → value_at given_part.0 x ≡ Some u → G x × (value_at q.effect.binds x ≡ Some u)
      given_of x u e = narrowed_less G given_known q.effect.binds given_part.0 given_part.1 x u e

      gains : GainsGiven G q v gained
      gains = record {
        goals = refl;
        gained = λ x u w e. gained_at x ∙ ap (λ o. option_or o (value_at v.store x)) (given_part.1.0 x w ∙ e);
        others = λ x n. gained_at x ∙ ap (λ o. option_or o (value_at v.store x))
            (by_option (value_at given_part.0 x) (λ e. e) (λ u e. let m = given_of x u e in absurd (n (m.0, ap is_some m.1))));
      }

      -- what was there stays
      old_stays : (x : VarName) (u : Tree) → value_at v.store x ≡ Some u → value_at gained.store x ≡ Some u
      old_stays x u e = by_option (value_at given_part.0 x)
          (λ n. gained_at x ∙ ap (λ o. option_or o (value_at v.store x)) n ∙ e)
          (λ w m. absurd (not_both (a.less x u e) ((step_binds P s q fired).binds_new x w (given_of x w m).1)))

      goals_stay : (k : GoalName) (c : Goal) → finite.get (after s q).goals k ≡ Some c → Descends rs g k → ¬ (k ≡ g) → finite.get v.goals k ≡ Some c
      goals_stay k c e d apart = by_option (own q k)
          (λ n. a.goals k c (sym (goal_left s q k n (not_taken s q k c n e)) ∙ e) d apart)
          (λ w m. absurd (not_its_own k w m d apart))
        where
          not_its_own : (k : GoalName) (w : Goal) → own q k ≡ Some w → Descends rs g k → ¬ (k ≡ g) → ⊥
          not_its_own k w m itself apart = apart refl
          not_its_own k w m (made_by p j makes took d) apart =
              let one : p ≡ q = numbered_once P query rs t replay q p q_in j (sym (own_made q k w m).0 ∙ makes.0) in
              other (_, sym (ap (λ (z : Record). z.goal) one) ∙ took, d)

      along_others : Along (done ++ q ∷ []) (after s q) gained
      along_others = record {
        goals = goals_stay;
        root = λ n. a.root (still_untaken n);
        own_bound = λ m x u i p e. elim (in_more done q m i) [
          | inl j ↦ old_stays x u (a.own_bound m x u j p e)
          | inr same ↦ absurd (other (subst (IsOfPart rs g) same p))
        ];
        given_bound = λ m x u i w e. elim (in_more done q m i) [
          | inl j ↦ old_stays x u (a.given_bound m x u j w e)
          | inr same ↦ gains.gained x u w (subst (λ (z : Record). value_at z.effect.binds x ≡ Some u) same e)
        ];
        less = λ x u e. over (value_at (after s q).store x ≡ Some u) (value_at given_part.0 x) (value_at v.store x) u (sym (gained_at x) ∙ e)
            (λ m. new_bound s q x u (given_of x u m).1) (λ _ m. kept_bound P s q fired x u (a.less x u m));
      }

  abbrev pub Run : State → List Record → State → Type 0
  Run = RunsAmong P (IsOfPart rs g) G

  -- along some of the steps
  pub run_on : (done xs rest : List Record) (s v m : State) → rs ≡ done ++ (xs ++ rest) → Results query done s → Along done s v → Runs P s xs m
      → (w : State) × Run v xs w × Along (done ++ xs) m w × Results query (done ++ xs) m
  run_on done [] rest s v m e h a run =
      let same : done ≡ done ++ [] = sym (append-nil done) in
      (v, at_end, subst (λ z. Along z m v) same (subst (λ z. Along done z v) (sym run) a), subst (λ z. Results query z m) same (subst (λ z. Results query done z) (sym run) h))
  run_on done (q ∷ xs) rest s v m e h a run =
      let behind = xs ++ rest in
      let h' = stepped P query rs replay.0 done behind q s e h run.0 in
      let e' = e ∙ sym (append_assoc done (q ∷ []) behind) in
      let one = append_assoc done (q ∷ []) xs in
      elim (part_known q (subst (In q) (sym e) (in_right done (q ∷ behind) q (inl refl)))) [
        | inl part ↦
            let w = run_on (done ++ q ∷ []) xs rest (after s q) (after v q) m e' h' (along_part done behind s v q e h run.0 a part) run.1 in
            (w.0, of_part part (fires_there done behind s v q e h run.0 a part) w.1, subst (λ z. Along z m w.0) one w.2, subst (λ z. Results query z m) one w.3)
        | inr other ↦
            let w = run_on (done ++ q ∷ []) xs rest (after s q) (gained done behind s v q e h run.0 a other) m e' h' (along_others done behind s v q e h run.0 a other) run.1 in
            (w.0, of_others other (gains done behind s v q e h run.0 a other) w.1, subst (λ z. Along z m w.0) one w.2, subst (λ z. Results query z m) one w.3)
      ]

  pub start : Along [] (query_state query) (goal_alone g b)
  start = record {
    goals = λ k c e d apart. absurd (first_is_root k c e d apart);
    root = λ n. only_goal g b;
    own_bound = λ m x u i. absurd i;
    given_bound = λ m x u i. absurd i;
    less = λ x u e. e;
  } where
    first_is_root : (k : GoalName) (c : Goal) → finite.get (query_state query).goals k ≡ Some c → Descends rs g k → ¬ (k ≡ g) → ⊥
    first_is_root k c e itself apart = apart refl
    first_is_root k c e (made_by m j makes took d) apart = no_query _ _ (of_query query k c e) makes.0 (replay.0.0 m j).0

  -- all within the goal ends as in t
  pub ends_alike : (w : State) → Along rs t w → (x : VarName) → IsWithinGoal S b x → value_at w.store x ≡ S x
  ends_alike w a x within = by_option (S x)
      (λ n. by_option (value_at w.store x) (λ m. m ∙ sym n) (λ u m. absurd (not_both (a.less x u m) n)))
      (λ u e.
      let c = bound_by query rs t end x u e in
      elim (part_known c.0 c.1) [
        | inl part ↦ a.own_bound c.0 x u c.1 part c.2
        | inr other ↦ a.given_bound c.0 x u c.1 (within, (c.0, c.1, other, ap is_some c.2)) c.2
      ] ∙ sym e)

  pub runs_among : PartRunsAmongOthers P rs t g b
  runs_among =
      let w = run_on [] rs [] (query_state query) (goal_alone g b) t (sym (append-nil rs)) (at_first query) start replay.1 in
      record { end = w.0; runs = w.1; same = ends_alike w.0 w.2 }

  pub sees : (s : Record) → In s rs → ¬ IsOfPart rs g s → SeesWhatPartGave rs S g b s
  sees s i other = record {
    takes = λ q j part c. other (c.0, c.1, made_by q j c.2 part.1 part.2);
    reads = λ q x j part read. (read_back P query rs t accepted asked replay r g b call s q x i j other part read.0 read.1, (q, j, part, read.1));
  }

pub among : PartsRunAmongOthers
among P query rs t r g b accepted asked replay i e had free =
    runs_among P query rs t accepted asked replay r g b (record { kept = i; took = e; had = had; left_alone = free })

pub others_see : OthersSeeWhatPartsGave
others_see P query rs t r s g b accepted asked replay i e had free j other =
    sees P query rs t accepted asked replay r g b (record { kept = i; took = e; had = had; left_alone = free }) s j other
