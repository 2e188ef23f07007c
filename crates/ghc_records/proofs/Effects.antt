-- The variables that an effect brings in, and the state after a step.
use Rattle.ghc_records.proofs.Words.{◌≡◌, ◌==◌, ℕ, zero, suc, ◌+◌, ◌<◌, ◌≤◌, ◌⊎◌, Bool, true, false, cond, List, [], ◌∷◌, map, filter, refl, sym, ap, ◌∙◌, subst, inl, inr, arith, Some, None, Option, option_or, VarName, GoalName, Tree, Goal, In, Reaches, here, through, IsAcyclic, name_cmp, StoreValue, value_at, eq-eqb, false_from_ne_true, nat_decided, Program, variables_of_goal, is_stream, IsProgram, by_answers, made, Act, Asked as asked, Effect, HasEffect, ComesFrom, Asks, made_from, variables_asked, effect_acyclic, Inside, variables_come, Goals, State, Record, without_goal, after, IsThere, Fires, HasStepEffect}
use Rattle.std.specs.FinMap as finite
use Rattle.ghc_flat.specs.Variables.{variables_of_goals, firsts}
use Rattle.ghc_fire.proofs.Steps.{nothing}
use Rattle.ghc_records.specs.Replay.{Names}
use Rattle.ghc_records.proofs.States.{bound_at, made_or_old, old_apart}
use Rattle.ghc_records.proofs.Heads.{first_in, of_goals}

-- the variables `_n_1` to `_n_k`
abbrev pub Made : ℕ → ℕ → VarName → Type 0
Made n k y = (y.step ≡ n) × (1 ≤ y.place) × (y.place ≤ k)

-- D holds of all variables of the bindings and of the goals made
pub record BringsIn (D : VarName → Type 0) (e : Effect) : Type 0 where
  pub keys : (x : VarName) (t : Tree) → value_at e.binds x ≡ Some t → D x
  pub values : (x : VarName) (t : Tree) → value_at e.binds x ≡ Some t → Inside D t
  pub goals : (g : Goal) (y : VarName) → In g e.makes → In y (variables_of_goal g) → D y

pub mapped : {X Y : Type 0} (f : X → Y) (xs : List X) (y : Y) → In y (map f xs) → (x : X) × In x xs × (y ≡ f x)
mapped f [] y i = absurd i
mapped f (x ∷ xs) y (inl e) = (x, inl refl, e)
mapped f (x ∷ xs) y (inr i) = let p = mapped f xs y i in (p.0, inr p.1, p.2)

-- a filter has what passes the test
filter_has : {X : Type 0} (test : X → Bool) (xs : List X) (x : X) → In x xs → test x ≡ true → In x (filter test xs)
filter_has test [] x i t = absurd i
filter_has test (y ∷ xs) x i t =
    elim (test y) as (λ b. test y ≡ b → In x (cond b (y ∷ filter test xs) (filter test xs))) [
      | true ↦ λ p. elim i [ inl e ↦ inl e | inr j ↦ inr (filter_has test xs x j t) ]
      | false ↦ λ p. elim i [
        | inl e ↦ let clash : false ≡ true = sym p ∙ ap test (sym e) ∙ t in cc
        | inr j ↦ filter_has test xs x j t
      ]
    ] refl

pub not_stream : (gs : List Goal) (g : Goal) → filter is_stream gs ≡ [] → In g gs → is_stream g ≡ false
not_stream gs g e i = false_from_ne_true (is_stream g) (λ t. subst (In g) e (filter_has is_stream gs g i t))

-- D holds of what a step brings in, where it holds of the variables of the goal and of the store, and of those that the step makes
brings_in : (D : VarName → Type 0) (s : StoreValue) → ((x : VarName) (t : Tree) → value_at s x ≡ Some t → Inside D t) → (P : Program) (g : Goal) (a : Act) (n : ℕ) (e : Effect) → IsProgram P → IsAcyclic (value_at s)
    → ((y : VarName) → In y (variables_of_goal g) → D y) → ((y : VarName) → Made n e.fresh y → D y) → HasEffect P g a n (value_at s) e → BringsIn D e
brings_in D s shut P g a n e accepted acyclic h new d =
    let came = variables_come P g a n s e accepted acyclic d in
    let has : (y : VarName) → ComesFrom n g (value_at s) e y → D y = λ y o. elim o [
      | inl i ↦ h y i
      | inr w ↦ elim w [ inl v ↦ shut v.0 v.1 v.2 y v.3 | inr m ↦ new y m ]
    ] in
    record {
      keys = λ x t p. has x (came.bound x t p).0;
      values = λ x t p y o. has y ((came.bound x t p).1 y o);
      goals = λ b y i j. has y (came.made y (of_goals e.makes b y i j));
    }

made_bounds : (n i k : ℕ) (x : VarName) → In x (made_from n i k) → (x.step ≡ n) × (i ≤ x.place) × (x.place < i + k)
made_bounds n i zero x j = absurd j
made_bounds n i (suc k) x (inl e) = let place : x.place ≡ i = ap (λ (v : VarName). v.place) e in (ap (λ (v : VarName). v.step) e, omega arith, omega arith)
made_bounds n i (suc k) x (inr j) = let m = made_bounds n (i + 1) k x j in (m.0, omega (arith, m.1), omega (arith, m.2))

-- a variable of the goals for which a step asks is its own, or is named
asked_variable : (P : Program) (r : Record) (gs : List Goal) → r.act ≡ asked gs → Asks P gs r.number r.effect → (g : Goal) (y : VarName) → In g gs → In y (variables_of_goal g) → Made r.number r.effect.fresh y ⊎ Names r y
asked_variable P r gs act asks g y i j =
    let first : In y (firsts [] (variables_of_goals gs)) = first_in [] (variables_of_goals gs) y (of_goals gs g y i j) refl in
    elim (nat_decided y.step r.number) [
      | inl e ↦
          let own = subst (In y) asks.own (filter_has (λ x. x.step == r.number) (firsts [] (variables_of_goals gs)) y first (eq-eqb y.step r.number e)) in
          let b = made_bounds r.number 1 r.effect.fresh y own in
          inl (b.0, b.1, omega (arith, b.2))
      | inr n ↦ inr (subst (λ a. In y (variables_asked a)) (sym act) first, n)
    ]

asked_brings : (P : Program) (D : VarName → Type 0) (r : Record) (gs : List Goal) → r.act ≡ asked gs → Asks P gs r.number r.effect → ((y : VarName) → Made r.number r.effect.fresh y → D y) → ((y : VarName) → Names r y → D y) → BringsIn D r.effect
asked_brings P D r gs act asks new named = record {
  keys = λ x t p. absurd (nothing r.effect.binds asks.binds x t p);
  values = λ x t p. absurd (nothing r.effect.binds asks.binds x t p);
  goals = λ g y i j. elim (asked_variable P r gs act asks g y (subst (In g) asks.makes i) j) [ inl m ↦ new y m | inr n ↦ named y n ];
}

-- D holds of all variables of the state
pub record HasOnly (D : VarName → Type 0) (s : State) : Type 0 where
  pub keys : (x : VarName) (t : Tree) → value_at s.store x ≡ Some t → D x
  pub values : (x : VarName) (t : Tree) → value_at s.store x ≡ Some t → Inside D t
  pub goals : (g : GoalName) (b : Goal) (y : VarName) → finite.get s.goals g ≡ Some b → In y (variables_of_goal b) → D y

pub has_more : (D E : VarName → Type 0) (s : State) → ((x : VarName) → D x → E x) → HasOnly D s → HasOnly E s
has_more D E s f h = record {
  keys = λ x t p. f x (h.keys x t p);
  values = λ x t p y o. f y (h.values x t p y o);
  goals = λ g b y p i. f y (h.goals g b y p i);
}

pub kept_goal : (m : Goals) (o : Option GoalName) (h : GoalName) (b : Goal) → finite.get (without_goal o m) h ≡ Some b → finite.get m h ≡ Some b
kept_goal m None h b e = e
kept_goal m (Some g) h b e = (old_apart m g h b e).0

either_bound : (a b : Option Tree) (t : Tree) → option_or a b ≡ Some t → (a ≡ Some t) ⊎ (b ≡ Some t)
either_bound None b t e = inr e
either_bound (Some u) b t e = inl e

module _ (P : Program) (s : State) (r : Record) (fires : Fires P s r) where
  -- a goal that is there fires, or the step consumes none and asks for goals
  pub firing : ((g : GoalName) × (b : Goal) × (r.goal ≡ Some g) × (finite.get s.goals g ≡ Some b) × HasEffect P b r.act r.number (value_at s.store) r.effect)
      ⊎ ((gs : List Goal) × (r.act ≡ asked gs) × Asks P gs r.number r.effect × (r.goal ≡ None))
  firing = by_goal r.goal r.consumed refl fires.0 fires.1
    where
      by_act : (a : Act) → r.act ≡ a → HasStepEffect P None a r.number (value_at s.store) r.effect → (gs : List Goal) × (r.act ≡ asked gs) × Asks P gs r.number r.effect
      by_act (asked gs) e f = (gs, e, f)
      by_act a e f = absurd f

      by_goal : (o : Option GoalName) (c : Option Goal) → r.goal ≡ o → IsThere s.goals o c → HasStepEffect P c r.act r.number (value_at s.store) r.effect
          → ((g : GoalName) × (b : Goal) × (r.goal ≡ Some g) × (finite.get s.goals g ≡ Some b) × HasEffect P b r.act r.number (value_at s.store) r.effect)
          ⊎ ((gs : List Goal) × (r.act ≡ asked gs) × Asks P gs r.number r.effect × (r.goal ≡ None))
      by_goal None None q e f = let a = by_act r.act refl f in inr (a.0, a.1, a.2, q)
      by_goal None (Some b) q e f = cc
      by_goal (Some g) None q e f = let clash : None ≡ Some e.0 = e.1 in cc
      by_goal (Some g) (Some b) q e f = inl (g, b, q, (let same : b ≡ e.0 = cc in e.2 ∙ ap Some (sym same)), f)

  pub after_has : (D : VarName → Type 0) → IsProgram P → IsAcyclic (value_at s.store) → HasOnly D s → ((y : VarName) → Made r.number r.effect.fresh y → D y) → ((y : VarName) → Names r y → D y) → HasOnly D (after s r)
  after_has D accepted acyclic h new named =
      let brings : BringsIn D r.effect = elim firing [
        | inl f ↦ brings_in D s.store h.values P f.1 r.act r.number r.effect accepted acyclic (λ y i. h.goals f.0 f.1 y f.3 i) new f.4
        | inr a ↦ asked_brings P D r a.0 a.1 a.2 new named
      ] in
      let bound : (x : VarName) (t : Tree) → value_at (after s r).store x ≡ Some t → (value_at r.effect.binds x ≡ Some t) ⊎ (value_at s.store x ≡ Some t) =
      λ x t p. either_bound (value_at r.effect.binds x) (value_at s.store x) t (sym (bound_at r.effect.binds s.store x) ∙ p) in
      record {
        keys = λ x t p. elim (bound x t p) [ inl q ↦ brings.keys x t q | inr q ↦ h.keys x t q ];
        values = λ x t p y o. elim (bound x t p) [ inl q ↦ brings.values x t q y o | inr q ↦ h.values x t q y o ];
        goals = λ g b y p i. elim (made_or_old r.number 1 r.effect.makes (without_goal r.goal s.goals) g b p) [
          | inl q ↦ brings.goals b y q.1 i
          | inr q ↦ h.goals g b y (kept_goal s.goals r.goal g b q) i
        ];
      }

  reached : (D : VarName → Type 0) {t : Tree} {y : VarName} → HasOnly D s → Reaches (value_at s.store) t y → Inside D t → D y
  reached D h (here o) i = i _ o
  reached D h (through {u = u} {y = x} o e q) i = reached D h q (h.values x u e)

  pub after_acyclic : (D : VarName → Type 0) → IsAcyclic (value_at s.store) → HasOnly D s → ((i : ℕ) → ¬ D (made r.number i)) → IsAcyclic (value_at (after s r).store)
  after_acyclic D acyclic h new =
      subst IsAcyclic (by_answers (λ x. sym (bound_at r.effect.binds s.store x))) (elim firing [
        | inl f ↦ effect_acyclic P f.1 r.act r.number (value_at s.store) r.effect acyclic (λ i. (
          elim (value_at s.store (made r.number i)) as (λ v. value_at s.store (made r.number i) ≡ v → v ≡ None) [ None ↦ λ p. refl | Some t ↦ λ p. absurd (new i (h.keys (made r.number i) t p)) ] refl,
          λ k tail same q. new i (reached D h q (λ y o. h.goals f.0 f.1 y f.3 (subst (λ b. In y (variables_of_goal b)) (sym same) (inl o)))),
        )) f.4
        | inr a ↦ subst IsAcyclic (by_answers (λ y. ap (λ o. option_or o (value_at s.store y)) (sym (finite.get-empty name_cmp y) ∙ ap (λ z. value_at z y) (sym a.2.binds)))) acyclic
      ])
