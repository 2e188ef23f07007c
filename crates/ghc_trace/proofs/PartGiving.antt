-- What is found by the numbers of a part is what the words say of the part.
use Rattle.ghc_trace.proofs.Words.{◌≡◌, ℕ, List, [], ◌++◌, codes, refl, sym, ap, ◌∙◌, subst, inl, inr, ◌↔◌, Bool, true, false, IsTrue, Option, None, VarName, GoalName, Goal, call, unify, assign, stream, Tree, Some, is_some, In, in_left, in_right, in_either, ◌∷◌, StoreValue, value_at, AreDistinct, Program, Query, State, Record, numbers, Replays, record_once, StepBinds, World}
use Rattle.std.specs.FinMap as finite
use Rattle.ghc_depend.proofs.Comparing.{bound_value}
use Rattle.ghc_depend.proofs.Finding.{ends}
use Rattle.ghc_depend.proofs.Placing.{bound_once, results_of}
use Rattle.ghc_depend.proofs.Results.{bound_by, untaken}
use Rattle.ghc_depend.specs.Depend.{Follows, directly, further}
use Rattle.ghc_term.proofs.Gathered.{in_variables, of_variables}
use Rattle.ghc_term.proofs.Reaching.{reaches_in}
use Rattle.ghc_term.specs.Bindings.{Reaches, here, through}
use Rattle.ghc_term.specs.Expression.{Expression, leaf, operation}
use Rattle.ghc_term.specs.Tree.{Occurs, variable}
use Rattle.ghc_term.specs.Variables.{variables, variables_of_expression, variables_of_goal, variables_of_list}
use Rattle.ghc_hooks.specs.Reached.{leaves}
use Rattle.ghc_records.specs.Uses.{Binds}
use Rattle.ghc_trace.specs.Holding.{GoalReaches, goal_terms}
use Rattle.ghc_trace.specs.PartLines.{IsShown, TellsGiven, TellsTurns, asked_lines}
use Rattle.ghc_depend.specs.Parts.{GoesInTurns, HasWhatWasGiven, IsOfPart, IsReachedInto, IsWithinGoal}
use Rattle.ghc_trace.specs.Parts.{ArePartNumbers}
use Rattle.ghc_trace.specs.inner.PartsCode.{ArePickedNumbers, AreWithCauses, BindsAlone, IsGivenIn, IsTakenOrThere, IsTakerIn, IsWorldOf, NamesInside, OneFollows, turns_text}
use Rattle.ghc_trace.proofs.Giving.{picks_as}

-- a variable has one binder
pub binder_once : (P : Program) (query : Query) (rs : List Record) (t : State) → Replays P query rs t → (x : VarName) (n m : ℕ) → StepBinds rs n x → StepBinds rs m x → n ≡ m
binder_once P query rs t replay x n m a b =
    let u = bound_value a.0 x a.3 in
    let v = bound_value b.0 x b.3 in
    let one : b.0 ≡ a.0 = bound_once P query rs t replay a.0 b.0 x u.0 v.0 a.1 b.1 u.1 v.1 in
    sym a.2 ∙ ap (λ (z : Record). z.number) (sym one) ∙ b.2

-- a variable is one of a goal just where it stands in one of its terms
occurs_list : (ts : List Tree) (y : VarName) → In y (variables_of_list ts) ↔ ((t : Tree) × In t ts × Occurs y t)
occurs_list [] y = (λ i. absurd i, λ q. absurd q.1)
occurs_list (t ∷ ts) y = (
  λ i. elim (in_either (variables t) (variables_of_list ts) y i) [
    | inl j ↦ (t, inl refl, of_variables t y j)
    | inr j ↦ let q = (occurs_list ts y).0 j in (q.0, inr q.1, q.2)
  ],
  λ q. elim q.1 [
    | inl same ↦ in_left (variables t) (variables_of_list ts) y (in_variables t y (subst (Occurs y) same q.2))
    | inr j ↦ in_right (variables t) (variables_of_list ts) y ((occurs_list ts y).1 (q.0, j, q.2))
  ],
)

occurs_leaves : (a : Expression) (y : VarName) → In y (variables_of_expression a) ↔ ((t : Tree) × In t (leaves a) × Occurs y t)
occurs_leaves (leaf t) y = (
  λ i. (t, inl refl, of_variables t y i),
  λ q. elim q.1 [ inl same ↦ in_variables t y (subst (Occurs y) same q.2) | inr j ↦ absurd j ],
)
occurs_leaves (operation o a c) y = (
  λ i. elim (in_either (variables_of_expression a) (variables_of_expression c) y i) [
    | inl j ↦ let q = (occurs_leaves a y).0 j in (q.0, in_left (leaves a) (leaves c) q.0 q.1, q.2)
    | inr j ↦ let q = (occurs_leaves c y).0 j in (q.0, in_right (leaves a) (leaves c) q.0 q.1, q.2)
  ],
  λ q. elim (in_either (leaves a) (leaves c) q.0 q.1) [
    | inl j ↦ in_left (variables_of_expression a) (variables_of_expression c) y ((occurs_leaves a y).1 (q.0, j, q.2))
    | inr j ↦ in_right (variables_of_expression a) (variables_of_expression c) y ((occurs_leaves c y).1 (q.0, j, q.2))
  ],
)

pub occurs_goal : (b : Goal) (y : VarName) → In y (variables_of_goal b) ↔ ((t : Tree) × In t (goal_terms b) × Occurs y t)
occurs_goal (call f ts) y = occurs_list ts y
occurs_goal (unify l r) y = (
  λ i. elim (in_either (variables l) (variables r) y i) [ inl j ↦ (l, inl refl, of_variables l y j) | inr j ↦ (r, inr (inl refl), of_variables r y j) ],
  λ q. elim q.1 [
    | inl same ↦ in_left (variables l) (variables r) y (in_variables l y (subst (Occurs y) same q.2))
    | inr j ↦ elim j [ inl same ↦ in_right (variables l) (variables r) y (in_variables r y (subst (Occurs y) same q.2)) | inr never ↦ absurd never ]
  ],
)
occurs_goal (assign u a) y = (
  λ i. elim (in_either (variables u) (variables_of_expression a) y i) [
    | inl j ↦ (u, inl refl, of_variables u y j)
    | inr j ↦ let q = (occurs_leaves a y).0 j in (q.0, inr q.1, q.2)
  ],
  λ q. elim q.1 [
    | inl same ↦ in_left (variables u) (variables_of_expression a) y (in_variables u y (subst (Occurs y) same q.2))
    | inr j ↦ in_right (variables u) (variables_of_expression a) y ((occurs_leaves a y).1 (q.0, j, q.2))
  ],
)
occurs_goal (stream k x) y = (
  λ i. elim i [ inl same ↦ (variable x, inl refl, same) | inr never ↦ absurd never ],
  λ q. elim q.1 [ inl same ↦ inl (subst (Occurs y) same q.2) | inr never ↦ absurd never ],
)

-- a tree reaches what one of its variables reaches
by_variable : (S : VarName → Option Tree) (t : Tree) (x : VarName) → Reaches S t x → (y : VarName) × Occurs y t × Reaches S (variable y) x
by_variable S t x (here o) = (x, o, here refl)
by_variable S t x (through {u = u} {y = y} o e r) = (y, o, through refl e r)

pub reached_within : (S : VarName → Option Tree) (b : Goal) (x : VarName) → GoalReaches S b x ↔ IsWithinGoal S b x
reached_within S b x = (
  λ q. let v = by_variable S q.0 x q.2 in (v.0, (occurs_goal b v.0).1 (q.0, q.1, v.1), v.2),
  λ q. let t = (occurs_goal b q.0).0 q.1 in (t.0, t.1, reaches_in t.2 q.2),
)

-- what follows among steps that are with their causes follows among all
module _ (kept rs : List Record) (causes : AreWithCauses kept rs) where
  pub follows_here : (q r : Record) → Follows kept q r → In r rs → Follows rs q r
  follows_here q r (directly d) i = directly ((causes q r).1 (i, d))
  follows_here q r (further {b = b} f d) i = let e = (causes b r).1 (i, d) in further (follows_here q b f (ends rs r b e).0) e

  pub follows_there : (q r : Record) → Follows rs q r → Follows kept q r
  follows_there q r (directly d) = directly ((causes q r).0 d).1
  follows_there q r (further {b = b} f d) = further (follows_there q b f) ((causes b r).0 d).1

module _ (kept rs : List Record) (once : AreDistinct (numbers kept)) (within : (r : Record) → In r rs → In r kept) (g : GoalName) (ns : List ℕ) (part : ArePartNumbers rs g ns) where
  -- a kept step of one of the numbers is of the part
  of_number : (q : Record) → In q kept → In q.number ns → In q rs × IsOfPart rs g q
  of_number q i j =
      let p = (part q.number).0 j in
      let one = record_once kept p.0 q once (within p.0 p.1.0) i p.1.1 in
      (subst (λ z. In z rs) one p.1.0, subst (IsOfPart rs g) one p.2)

  by_number : (r : Record) → In r rs → In r.number ns ↔ IsOfPart rs g r
  by_number r i = (λ j. (of_number r (within r i) j).1, λ p. (part r.number).1 (r, (i, refl), p))

  -- the asks that reach in
  pub asks_reach : (asks : List ℕ) → ArePickedNumbers (NamesInside kept ns) rs asks → ArePickedNumbers (IsReachedInto rs g) rs asks
  asks_reach asks p = (
    p.0,
    picks_as rs p.0 (λ r _. (
      λ (x, i, (other, (q, j, number, makes))). let m = of_number q j number in (q, x, m.0, m.1, ((i, other), makes)),
      λ (q, x, j, of, names). (x, names.0.0, (names.0.1, (q, within q j, (by_number q j).1 of, names.1))),
    )) p.1,
    p.2,
  )

  module _ (P : Program) (query : Query) (t : State) (replay : Replays P query rs t) (one_binder : (x : VarName) (n m : ℕ) → StepBinds kept n x → StepBinds kept m x → n ≡ m) (b : Goal)
      (xs : List VarName) (given : (x : VarName) → In x xs ↔ (GoalReaches (value_at t.store) b x × IsGivenIn kept ns (value_at t.store) x)) where
    -- of the steps one that is not of the part bound what is given
    binder : (x : VarName) → IsGivenIn kept ns (value_at t.store) x → (r : Record) × In r rs × (¬ IsOfPart rs g r) × Binds r x
    binder x h =
        let r = bound_by query rs t (results_of P query rs t replay) x h.value h.bound in
        let binds : Binds r.0 x = ap is_some r.2 in
        let number = h.alone r.0.number (r.0, within r.0 r.1, refl, binds) in
        (r.0, r.1, (λ p. h.outside (subst (λ k. In k ns) number ((by_number r.0 r.1).1 p))), binds)

    -- and what such a step bound is given
    is_given : (x : VarName) (c : Tree) → value_at t.store x ≡ Some c → (q : Record) → In q rs → ¬ IsOfPart rs g q → Binds q x → IsGivenIn kept ns (value_at t.store) x
    is_given x c e q i not binds = record {
      value = c;
      bound = e;
      binder = q.number;
      binds = (q, within q i, refl, binds);
      alone = λ n s. one_binder x n q.number s (q, within q i, refl, binds);
      outside = λ j. not ((by_number q i).0 j);
    }

    -- the store of what it was given
    pub store_given : (store : StoreValue) → BindsAlone xs (value_at t.store) (value_at store) → HasWhatWasGiven rs (value_at t.store) g b (record { goals = finite.insert finite.empty g b; store = store })
    store_given store binds = record {
      goals = refl;
      bound = λ x c. (
        λ e. let i = binds.only x c e in let q = (given x).0 i in (((reached_within (value_at t.store) b x).0 q.0, binder x q.1), sym (binds.those x i) ∙ e),
        λ (w, e). let q = w.1 in binds.those x ((given x).1 ((reached_within (value_at t.store) b x).1 w.0, is_given x c e q.0 q.1 q.2 q.3)) ∙ e,
      );
    }

    -- whether it went in turns
    pub goes_in_turns : AreWithCauses kept rs → OneFollows kept ns xs ↔ GoesInTurns rs (value_at t.store) g b
    goes_in_turns causes = (
      λ (x, r, q, i, kept_r, binds, kept_q, number, f).
          let h = (given x).0 i in
          let m = binder x h.1 in
          let one = record_once kept m.0 r once (within m.0 m.1) kept_r (one_binder x m.0.number r.number (m.0, within m.0 m.1, refl, m.3) (r, kept_r, refl, binds)) in
          let in_rs = subst (λ z. In z rs) one m.1 in
          let p = of_number q kept_q number in (
            x,
            r,
            (reached_within (value_at t.store) b x).0 h.0,
            in_rs,
            subst (λ z. ¬ IsOfPart rs g z) one m.2,
            (q, p.0, p.1, follows_here kept rs causes q r f in_rs),
            binds,
          ),
      λ (x, r, inside, in_rs, not, (q, j, of, f), binds).
          let v = bound_value r x binds in
          let e = (results_of P query rs t replay).bound r x v.0 in_rs v.1 in (
            x,
            r,
            q,
            (given x).1 ((reached_within (value_at t.store) b x).1 inside, is_given x v.0 e r in_rs not binds),
            within r in_rs,
            binds,
            within q j,
            (by_number q j).1 of,
            follows_there kept rs causes q r f,
          ),
    )

-- what is known of the part of a goal by its numbers, and of what the goal was given, in a world of some of the kept steps
module _ (v : World) (kept : List Record) (steps : List ℕ) (store : StoreValue) (of : IsWorldOf kept steps store v) (once : AreDistinct (numbers kept)) (g : GoalName) (b : Goal) (ns : List ℕ) (xs : List VarName)
    (part_here : ArePartNumbers v.kept g ns)
    (given : (x : VarName) → In x xs ↔ (GoalReaches (value_at store) b x × IsGivenIn kept ns (value_at store) x)) (known : StoreValue) (alone : BindsAlone xs (value_at store) (value_at known)) where
  given_here : (x : VarName) → In x xs ↔ (GoalReaches (value_at v.state.store) b x × IsGivenIn kept ns (value_at v.state.store) x)
  given_here = subst (λ (s : StoreValue). (x : VarName) → In x xs ↔ (GoalReaches (value_at s) b x × IsGivenIn kept ns (value_at s) x)) (sym of.left) given

  pub known_here : HasWhatWasGiven v.kept (value_at v.state.store) g b (record { goals = finite.insert finite.empty g b; store = known })
  known_here =
      store_given kept v.kept once of.steps.within g ns part_here v.opening.program v.opening.query v.state of.replay of.bound_once b xs given_here known
      (subst (λ (s : StoreValue). BindsAlone xs (value_at s) (value_at known)) (sym of.left) alone)

  turns_here : OneFollows kept ns xs ↔ GoesInTurns v.kept (value_at v.state.store) g b
  turns_here = goes_in_turns kept v.kept once of.steps.within g ns part_here v.opening.program v.opening.query v.state of.replay of.bound_once b xs given_here of.causes

  by_test : (went : Bool) → (IsTrue went ↔ OneFollows kept ns xs) → TellsTurns v g b (turns_text went)
  by_test true h = inl (turns_here.0 (h.0 refl), refl)
  by_test false h = inr (λ t. let clash : false ≡ true = h.1 (turns_here.1 t) in cc, refl)

  -- what the call was given is told
  pub told_given : (shown asks : List ℕ) (went : Bool) → IsShown known b shown → ArePickedNumbers (IsReachedInto v.kept g) v.kept asks → (IsTrue went ↔ OneFollows kept ns xs)
      → TellsGiven v g b (codes "given " ++ (shown ++ (codes "\n" ++ (asked_lines asks ++ turns_text went))))
  told_given shown asks went shows reach follows = record {
    store = known;
    was_given = known_here;
    shown = shown;
    shows = shows;
    asks = reach.0;
    reaching = reach.1;
    turns = turns_text went;
    in_turns = by_test went follows;
    written = ap (λ l. codes "given " ++ (shown ++ (codes "\n" ++ (asked_lines l ++ turns_text went)))) (sym reach.2);
  }

-- the world of all kept steps
pub world_of_all : (w : World) (kept : List Record) (store : StoreValue) → kept ≡ w.kept → store ≡ w.state.store → Replays w.opening.program w.opening.query w.kept w.state → IsWorldOf kept (numbers kept) store w
world_of_all w kept store same left replay = record {
  replay = replay;
  bound_once = subst (λ (l : List Record). (x : VarName) (n m : ℕ) → StepBinds l n x → StepBinds l m x → n ≡ m) (sym same) (binder_once w.opening.program w.opening.query w.kept w.state replay);
  steps = record { within = λ r i. subst (In r) (sym same) i; numbered = ap numbers (sym same) };
  causes = subst (λ (l : List Record). AreWithCauses l w.kept) (sym same) (λ a b. (λ d. ((ends w.kept b a d).1, d), λ p. p.1));
  left = sym left;
}

-- the step that took the goal is the record's; where none is given, none took it
pub taker_in : (w : World) (g : GoalName) (b : Goal) (kept : List Record) → kept ≡ w.kept → Replays w.opening.program w.opening.query w.kept w.state → (o : Option Record) → IsTakenOrThere w g b o → IsTakerIn kept g o
taker_in w g b kept same replay (Some r) h = (subst (In r) (sym same) h.0, h.1)
taker_in w g b kept same replay None there =
    λ r i. untaken w.opening.query w.kept w.state (results_of w.opening.program w.opening.query w.kept w.state replay) g b there r (subst (In r) same i)
