-- Where no goal that reaches a variable asked about may take a step, none of these variables is bound after any steps, inputs and closes.
use Rattle.ghc_trace.proofs.Words.{◌≡◌, ◌≢◌, ◌≤◌, ◌⊎◌, ℕ, [], ◌∷◌, refl, sym, ap, ◌∙◌, subst, inl, inr, arith, Option, Some, None, option_or, In, in_left, in_right, in_last, VarName, GoalName, Fault, Expression, Goal, call, unify, assign, stream, Tree, Variables, value_at, Program, Attempts, refused, is_stream, HasStatus, Status, waiting, is_failed, is_ready, is_stream_goal, is_waiting, Record, after, numbers, number_in, without_goal, makes_at, own, same_value, bound_at, kept_goal, Comes as comes, World, reached_good}
use Rattle.std.specs.Prelude.{false}
use Rattle.std.specs.FinMap as finite
use Rattle.ghc_term.specs.Bindings.{Reaches, here, through}
use Rattle.ghc_term.specs.Expression.{leaf, operation}
use Rattle.ghc_term.specs.Sets.{IsSetOf}
use Rattle.ghc_term.specs.Tree.{variable, Occurs}
use Rattle.ghc_term.specs.Variables.{variables_of_goal}
use Rattle.ghc_term.proofs.Resolving.{end_free}
use Rattle.ghc_flat.specs.Clause.{Clause}
use Rattle.ghc_match.specs.Looked.{ExpressionReaches}
use Rattle.ghc_match.specs.Match.{WaitsFor}
use Rattle.ghc_match.proofs.LooksAtArguments.{call_looks}
use Rattle.ghc_fire.specs.declared.act.Act.{Act}
use Rattle.ghc_fire.specs.Effect.{Effect, HasEffect}
use Rattle.ghc_fire.proofs.Origins.{Inside}
use Rattle.ghc_hooks.specs.Reached.{leaves, OneReaches}
use Rattle.ghc_hooks.specs.Status.{Awaits}
use Rattle.ghc_hooks.proofs.EachStatus.{each_status}
use Rattle.ghc_hooks.proofs.LookedAt.{waits_for_looked}
use Rattle.ghc_records.specs.Replay.{IsVariableOf, MakesVariable, Names}
use Rattle.ghc_records.proofs.Replaying.{of_query}
use Rattle.ghc_depend.proofs.Finding.{by_option, not_both}
use Rattle.ghc_depend.proofs.Results.{Taken, firing, step_binds}
use Rattle.ghc_depend.proofs.Within.{binds_in, makes_in, stays_in, unnamed}
use Rattle.ghc_core.specs.Reached.{Reaches as IsReached, by_change}
use Rattle.ghc_core.proofs.Arriving.{IsLonger, IsNew, comes_last, comes_new}
use Rattle.ghc_trace.specs.Holding.{GoalReaches, IsUnboundIn}
use Rattle.ghc_trace.specs.WhyNot.{IsAskedAbout, asked_first, awaited_there, IsAwaitedBy, MayBeBound}
use Rattle.ghc_trace.specs.WhyNotLaws.{GoesOn, at_once, by_step, WhatStaysUnboundIsNeverBound}
use Rattle.ghc_trace.proofs.PartGiving.{occurs_goal}
use Rattle.ghc_trace.proofs.Solving.{Has}
use Rattle.ghc_trace.proofs.StillStuck.{refused_stuck}

-- what a goal waits for is unbound
awaited_free : (P : Program) (S : VarName → Option Tree) (b : Goal) (x : VarName) → Awaits P S b x → S x ≡ None
awaited_free P S (call f ts) x w = of_clause w.1 w.4
  where
    of_clause : (c : Clause) → WaitsFor c ts S x → S x ≡ None
    of_clause c (inl w) = let h = w.1 in end_free h.6 x refl
    of_clause c (inr w) = let g = w.2 in let y = g.2 in let t = y.2 in end_free t.3 x refl
awaited_free P S (unify l r) x w = absurd w
awaited_free P S (assign t a) x w = end_free w.2.1 x refl
awaited_free P S (stream k y) x w = absurd w

-- what an expression reaches, one of its leaves reaches
by_leaf : {S : VarName → Option Tree} (a : Expression) (x : VarName) → ExpressionReaches S a x → OneReaches S (leaves a) x
by_leaf (leaf t) x r = (t, inl refl, r)
by_leaf (operation o a b) x (inl r) = let q = by_leaf a x r in (q.0, in_left (leaves a) (leaves b) q.0 q.1, q.2)
by_leaf (operation o a b) x (inr r) = let q = by_leaf b x r in (q.0, in_right (leaves a) (leaves b) q.0 q.1, q.2)

-- what a goal waits for, it reaches
awaited_reached : (P : Program) (S : VarName → Option Tree) (b : Goal) (x : VarName) → Awaits P S b x → GoalReaches S b x
awaited_reached P S (call f ts) x w = call_looks P f ts x (waits_for_looked P S (call f ts) x w)
awaited_reached P S (unify l r) x w = absurd w
awaited_reached P S (assign t a) x w = elim (waits_for_looked P S (assign t a) x w) [
  | inl r ↦ (t, inl refl, r)
  | inr r ↦ let q = by_leaf a x r in (q.0, inr q.1, q.2)
]
awaited_reached P S (stream k y) x w = absurd w

-- the variables for which a goal of the status waits
waited : {P : Program} {S : VarName → Option Tree} {b : Goal} {s : Status} → HasStatus P S b s → (xs : Variables) → s ≡ waiting xs → IsSetOf xs (Awaits P S b)
waited {P = P} {S = S} {b = b} (is_waiting {xs = ys} h m) xs e = let same : ys ≡ xs = cc in subst (λ z. IsSetOf z (Awaits P S b)) same m
waited h xs e = cc

-- a goal that waits is no stream goal
waits_plain : (P : Program) (S : VarName → Option Tree) (b : Goal) → Attempts P S (Some b) None (refused Fault.Waits) → is_stream b ≡ false
waits_plain P S (call f ts) h = refl
waits_plain P S (unify l r) h = refl
waits_plain P S (assign t a) h = refl
waits_plain P S (stream k x) h = let clash : refused Fault.Waits ≡ refused Fault.NoGoal = h in cc

module _ {S : VarName → Option Tree} where
  -- what a variable of a tree reaches, the tree reaches
  by_part : {t : Tree} {x y : VarName} → Occurs x t → Reaches S (variable x) y → Reaches S t y
  by_part {t = t} o (here e) = here (subst (λ z. Occurs z t) (sym e) o)
  by_part {t = t} o (through e p r) = through (subst (λ z. Occurs z t) (sym e) o) p r

  -- what a variable of a goal reaches, the goal reaches
  by_variable : (b : Goal) (x y : VarName) → In x (variables_of_goal b) → Reaches S (variable x) y → GoalReaches S b y
  by_variable b x y i r = let t = (occurs_goal b x).0 i in (t.0, t.1, by_part t.2 r)

module _ (w : World) (is_reached : IsReached w) where
  abbrev IsKnown : VarName → Type 0
  IsKnown = IsVariableOf w.opening.query w.kept

  -- the variable is known and unbound
  abbrev IsOpen : VarName → Type 0
  IsOpen x = IsKnown x × (value_at w.state.store x ≡ None)

  -- what a known variable reaches is known
  reached_known : {t : Tree} {y : VarName} → Reaches (value_at w.state.store) t y → Inside IsKnown t → IsKnown y
  reached_known = stays_in (λ x u q e. (reached_good is_reached).has.values x u e)

  term_open : (x y : VarName) → IsKnown x → IsUnboundIn (value_at w.state.store) x y → IsOpen y
  term_open x y known h = (reached_known h.0 (λ z e. subst IsKnown (sym e) known), h.1)

  -- what a goal that is there waits for is known and unbound
  hooked_open : (g : GoalName) (y : VarName) → IsAwaitedBy w g y → IsOpen y
  hooked_open g y hooked =
      let b = hooked.1 in
      let awaited = (waited b.2 hooked.0 refl y).0 hooked.2 in
      let r = awaited_reached w.opening.program (value_at w.state.store) b.0 y awaited in
      (reached_known r.2 (λ x o. (reached_good is_reached).has.goals g b.0 x b.1 ((occurs_goal b.0 x).1 (r.0, r.1, o))), awaited_free w.opening.program (value_at w.state.store) b.0 y awaited)

module _ (w : World) (First : VarName → Type 0) (is_reached : IsReached w) (first : (x : VarName) → First x → IsOpen w is_reached x) (never : ¬ MayBeBound w First) where
  abbrev P : Program
  P = w.opening.program

  abbrev S : VarName → Option Tree
  S = value_at w.state.store

  abbrev A : VarName → Type 0
  A = IsAskedAbout w First

  -- a variable asked about is known and unbound
  asked_open : (y : VarName) → A y → IsOpen w is_reached y
  asked_open y (asked_first f) = first y f
  asked_open y (awaited_there g asked there hooked) = hooked_open w is_reached g y hooked

  -- what reaches a variable asked about is known
  reaching_known : {x y : VarName} → A y → Reaches S (variable x) y → IsKnown w is_reached x
  reaching_known {y = y} a (here e) = subst (IsKnown w is_reached) e (asked_open y a).0
  reaching_known a (through {u = u} {y = z} e p r) = subst (IsKnown w is_reached) e ((reached_good is_reached).has.keys z u p)

  -- the variable reaches none asked about
  abbrev IsApart : VarName → Type 0
  IsApart x = (y : VarName) → A y → ¬ Reaches S (variable x) y

  -- what the variable x is bound to is as it was, or neither reaches a variable asked about
  abbrev IsOldBinding : VarName → Tree → Type 0
  IsOldBinding x t = (S x ≡ Some t) ⊎ (IsApart x × Inside IsApart t)

  -- the goal was there under this name, or reaches no variable asked about
  abbrev IsOldGoal : GoalName → Goal → Type 0
  IsOldGoal g b = (finite.get w.state.goals g ≡ Some b) ⊎ ((y : VarName) → In y (variables_of_goal b) → IsApart y)

  -- what holds after some steps: what was bound is bound as before, and what is new has nothing to do with the variables asked about
  record GoneOn (u : World) : Type 0 where
    reached : IsReached u
    opening : u.opening ≡ w.opening
    kept : (r : Record) → In r w.kept → In r u.kept
    has : Has (value_at u.state.store) S
    new : (x : VarName) (t : Tree) → value_at u.state.store x ≡ Some t → IsOldBinding x t
    goals : (g : GoalName) (b : Goal) → finite.get u.state.goals g ≡ Some b → IsOldGoal g b

  started : GoneOn w
  started = record { reached = is_reached; opening = refl; kept = λ r i. i; has = λ x t e. e; new = λ x t e. inl e; goals = λ g b e. inl e }

  module _ (u : World) (on : GoneOn u) where
    abbrev T : VarName → Option Tree
    T = value_at u.state.store

    still_free : (y : VarName) → A y → T y ≡ None
    still_free y a = by_option (T y) (λ none. none) (λ t e. elim (on.new y t e) [
      | inl old ↦ absurd (not_both old (asked_open y a).1)
      | inr q ↦ absurd (q.0 y a (here refl))
    ])

    -- what reaches no variable asked about is bound to such alone
    shut : (y : VarName) (t : Tree) → IsApart y → T y ≡ Some t → Inside IsApart t
    shut y t q e = elim (on.new y t e) [
      | inl old ↦ λ x o z a r. q z a (through refl old (by_part o r))
      | inr both ↦ both.1
    ]

    module _ (g : GoalName) (b : Goal) (there : finite.get w.state.goals g ≡ Some b) (act : Act) (n : ℕ) (e : Effect) (d : HasEffect P b act n T e) (y : VarName) (asked : A y) (reaches : GoalReaches S b y) where
      refused_takes_none : (f : Fault) → is_stream b ≡ false → Attempts P S (Some b) None (refused f) → (f ≡ Fault.Waits → (z : VarName) → Awaits P S b z → T z ≡ None) → ⊥
      refused_takes_none f plain h free =
          refused_stuck P (reached_good is_reached).accepted w.state.store u.state.store (reached_good is_reached).acyclic (reached_good on.reached).acyclic on.has b f plain h free act n e d

      by_status : (s : Status) → HasStatus P S b s → ⊥
      by_status s (is_ready f q h) = never (record { variable = y; goal = g }, asked, (b, there, reaches), inl (b, there, is_ready f q h))
      by_status s (is_waiting {xs = xs} h m) =
          refused_takes_none Fault.Waits (waits_plain P S b h) h (λ same z i. still_free z (awaited_there g asked (b, there, reaches) (xs, (b, there, is_waiting h m), (m z).1 i)))
      by_status s (is_failed {f = f} plain h other) = refused_takes_none f plain h (λ same. absurd (other same))
      by_status s (is_stream_goal h) = never (record { variable = y; goal = g }, asked, (b, there, reaches), inr (b, there, is_stream_goal h))

      -- a goal that was there, and reaches a variable asked about, takes no step
      takes_none : ⊥
      takes_none = let s = each_status P w.state.store b (reached_good is_reached).accepted (reached_good is_reached).acyclic in by_status s.0 s.1

    module _ (r : Record) (new : IsNew u r) (takes : r.goal ≢ None) (positive : 1 ≤ r.number) where
      taken_one : Taken u.opening.program u.state r
      taken_one = elim (firing u.opening.program u.state r new.fires) [ inl t ↦ t | inr asks ↦ absurd (takes asks.none) ]

      of_goal : (t : Taken u.opening.program u.state r) (y : VarName) → In y (variables_of_goal t.goal) → IsApart y
      of_goal t y i = elim (on.goals t.name t.goal t.there) [
        | inl old ↦ λ z a q. takes_none t.name t.goal old r.act r.number r.effect (subst (λ o. HasEffect o.program t.goal r.act r.number T r.effect) on.opening t.effect) z a (by_variable t.goal y z i q)
        | inr q ↦ q y i
      ]

      of_any_goal : (g : GoalName) (b : Goal) (y : VarName) → r.goal ≡ Some g → finite.get u.state.goals g ≡ Some b → In y (variables_of_goal b) → IsApart y
      of_any_goal g b y named there i =
          let t = taken_one in
          let name : g ≡ t.name = same_value named t.named in
          let same : b ≡ t.goal = same_value (subst (λ h. finite.get u.state.goals h ≡ Some b) name there) t.there in
          of_goal t y (subst (λ c. In y (variables_of_goal c)) same i)

      -- a new variable is not known before
      unknown : (y : VarName) → MakesVariable r y → ¬ IsKnown w is_reached y
      unknown y m (inl i) = let zeroth : y.step ≡ 0 = of_query P w.opening.query y (reached_good is_reached).asked i in omega (arith, zeroth, m.0, positive)
      unknown y m (inr k) = new.own (subst (λ n. In n (numbers u.kept)) (sym k.2.0 ∙ m.0) (number_in u.kept k.0 (on.kept k.0 k.1)))

      of_made : (y : VarName) → MakesVariable r y → IsApart y
      of_made y m z a q = unknown y m (reaching_known a q)

      -- and a step that takes a goal names nothing
      of_named : (y : VarName) → Names r y → IsApart y
      of_named y n = absurd (unnamed u.opening.program taken_one.goal r.act r.number T r.effect taken_one.effect y n.0)

      abbrev binds : VarName → Option Tree
      binds = value_at r.effect.binds

      at_end : (x : VarName) → value_at (after u.state r).store x ≡ option_or (binds x) (T x)
      at_end x = bound_at r.effect.binds u.state.store x

      still_has : Has (value_at (after u.state r).store) S
      still_has x t e = by_option (binds x)
          (λ none. at_end x ∙ ap (λ o. option_or o (T x)) none ∙ on.has x t e)
          (λ v b. absurd (not_both (on.has x t e) ((step_binds u.opening.program u.state r new.fires).binds_new x v b)))

      within : (x : VarName) (t : Tree) → binds x ≡ Some t → IsApart x × Inside IsApart t
      within = binds_in u.opening.program (reached_good on.reached).accepted u.state r new.fires (reached_good on.reached).acyclic IsApart shut of_any_goal of_made of_named

      makes : (h : GoalName) (c : Goal) (y : VarName) → own r h ≡ Some c → In y (variables_of_goal c) → IsApart y
      makes = makes_in u.opening.program (reached_good on.reached).accepted u.state r new.fires (reached_good on.reached).acyclic IsApart shut of_any_goal of_made of_named

      bound_then : (x : VarName) (t : Tree) → value_at (after u.state r).store x ≡ Some t → IsOldBinding x t
      bound_then x t e = by_option (binds x)
          (λ none. on.new x t (ap (λ o. option_or o (T x)) (sym none) ∙ sym (at_end x) ∙ e))
          (λ v b. inr (within x t (let same : Some v ≡ Some t = ap (λ o. option_or o (T x)) (sym b) ∙ sym (at_end x) ∙ e in b ∙ same)))

      there_then : (g : GoalName) (b : Goal) → finite.get (after u.state r).goals g ≡ Some b → IsOldGoal g b
      there_then g b e =
          let rest = without_goal r.goal u.state.goals in
          let at = makes_at r.number 1 r.effect.makes rest g in
          by_option (own r g)
          (λ none. on.goals g b (kept_goal u.state.goals r.goal g b (ap (λ o. option_or o (finite.get rest g)) (sym none) ∙ sym at ∙ e)))
          (λ c q. inr (λ y. makes g b y (let same : Some c ≡ Some b = ap (λ o. option_or o (finite.get rest g)) (sym q) ∙ sym at ∙ e in q ∙ same)))

      went_on : (v : World) → IsReached v → IsLonger u r v → GoneOn v
      went_on v reached longer = record {
        reached = reached;
        opening = longer.opening ∙ on.opening;
        kept = λ q i. subst (In q) (sym longer.kept) (in_left u.kept (r ∷ []) q (on.kept q i));
        has = subst (λ s. Has (value_at s.store) S) (sym longer.state) still_has;
        new = subst (λ s. (x : VarName) (t : Tree) → value_at s.store x ≡ Some t → IsOldBinding x t) (sym longer.state) bound_then;
        goals = subst (λ s. (g : GoalName) (b : Goal) → finite.get s.goals g ≡ Some b → IsOldGoal g b) (sym longer.state) there_then;
      }

  gone_on : {v : World} → GoesOn w v → GoneOn v
  gone_on at_once = started
  gone_on (by_step {u = u} {v = v} from r before takes can changes) =
      let on = gone_on before in
      let reached : IsReached v = by_change (comes from r) on.reached can changes in
      let longer : IsLonger u r v = subst (IsLonger u r) (sym changes) (comes_last from r u) in
      went_on u on r (comes_new u on.reached from r can) takes ((reached_good reached).positive r (subst (In r) (sym longer.kept) (in_last u.kept r))) v reached longer

  gone_unbound : (v : World) → GoesOn w v → (y : VarName) → A y → value_at v.state.store y ≡ None
  gone_unbound v goes = still_free v (gone_on goes)

pub never_bound : WhatStaysUnboundIsNeverBound
never_bound w v reached goes = record {
  of_variable = λ x known never. gone_unbound w (IsUnboundIn (value_at w.state.store) x) reached (λ y h. term_open w reached x y known h) never v goes;
  of_goal = λ g never. gone_unbound w (IsAwaitedBy w g) reached (λ y h. hooked_open w reached g y h) never v goes;
}
