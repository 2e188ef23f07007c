-- What a step reads is within its goal, and what it binds and makes stays in a closed set that has its goal.
use Rattle.ghc_depend.proofs.Words.{◌≡◌, ◌⊎◌, ℕ, cond, List, [], ◌∷◌, ◌++◌, refl, sym, ap, ◌∙◌, subst, inl, inr, arith, Some, None, Option, option_or, eq_by_cmp, IsTrue, VarName, GoalName, Tree, Goal, call, unify, assign, stream, Expression, integer, In, in_left, in_right, in_either, IsAcyclic, name_cmp, StoreValue, value_at, Decided, decided_either, true_decided, holds_nothing, name_total, goal_total, Program, Act, ByClause as by_clause, Unified as unified, Assigned as assigned, Given as given, Closed as closed, Asked as asked, Effect, HasEffect, effect_local, ReadsTail, Unifies, leaf_variables, variables_asked, IsProgram, goal_cmp, Goals, State, Record, after, without_goal, Fires, MakesVariable, bound_at}
use Rattle.std.specs.FinMap as finite
use Rattle.std.specs.FinSet as set
use Rattle.ghc_term.specs.Tree.{variable, node, Trees, none, more, Occurs, OccursIn}
use Rattle.ghc_term.specs.Expression.{leaf, operation}
use Rattle.ghc_term.specs.Bindings.{Reaches, here, through}
use Rattle.ghc_term.proofs.Chains.{leads_reaches}
use Rattle.ghc_term.proofs.SetsLemmas.{set_in}
use Rattle.ghc_term.proofs.Total.{empty_acyclic}
use Rattle.ghc_flat.specs.Variables.{variables, variables_of_all, variables_of_list, variables_of_expression, variables_of_goal}
use Rattle.ghc_match.proofs.LooksAtArguments.{call_looks}
use Rattle.ghc_unify.proofs.Agree.{looks_at_terms}
use Rattle.ghc_unify.proofs.Extension.{before, comes_reaches}
use Rattle.ghc_unify.proofs.LawProofs.{binds_and_reads}
use Rattle.ghc_unify.proofs.Locality.{by_binding}
use Rattle.ghc_unify.proofs.Reached.{reaches_decided}
use Rattle.ghc_unify.specs.Unify.{solved}
use Rattle.ghc_fire.proofs.Origins.{Inside}
use Rattle.ghc_records.proofs.Effects.{HasOnly, after_has}
use Rattle.ghc_records.specs.Replay.{Names}
use Rattle.ghc_depend.specs.Parts.{IsWithinGoal}
use Rattle.ghc_term.proofs.GoalNames.{apart as goal_apart}
use Rattle.ghc_records.proofs.States.{tied as goal_tied}
use Rattle.ghc_depend.proofs.Finding.{goal_or_not, makes_at, own, same_value, not_both}
use Rattle.ghc_depend.proofs.Results.{Taken, firing, asking_fires, fires}
use Rattle.ghc_depend.proofs.Working.{acyclic_part}

mutual
  -- what stands in a tree is one of its variables
  occurs_in : (t : Tree) (x : VarName) → Occurs x t → In x (variables t)
  occurs_in (variable y) x o = inl o
  occurs_in (integer k) x o = absurd o
  occurs_in (node f ts) x o = occurs_in_all ts x o

  occurs_in_all : (ts : Trees) (x : VarName) → OccursIn x ts → In x (variables_of_all ts)
  occurs_in_all none x o = absurd o
  occurs_in_all (more t ts) x (inl o) = in_left (variables t) (variables_of_all ts) x (occurs_in t x o)
  occurs_in_all (more t ts) x (inr o) = in_right (variables t) (variables_of_all ts) x (occurs_in_all ts x o)

-- one of the variables reaches x
abbrev OneOf : (VarName → Option Tree) → List VarName → VarName → Type 0
OneOf S ys x = (y : VarName) × In y ys × Reaches S (variable y) x

module _ {S : VarName → Option Tree} where
  -- what a tree reaches, one of its variables reaches
  by_variable : {t : Tree} {x : VarName} → Reaches S t x → (y : VarName) × Occurs y t × Reaches S (variable y) x
  by_variable {x = x} (here o) = (x, o, here refl)
  by_variable (through {y = y} o e r) = (y, o, through refl e r)

  one_of_tree : {t : Tree} {x : VarName} → Reaches S t x → OneOf S (variables t) x
  one_of_tree {t = t} r = let v = by_variable r in (v.0, occurs_in t v.0 v.1, v.2)

  one_left : {x : VarName} (ys zs : List VarName) → OneOf S ys x → OneOf S (ys ++ zs) x
  one_left ys zs v = (v.0, in_left ys zs v.0 v.1, v.2)

  one_right : {x : VarName} (ys zs : List VarName) → OneOf S zs x → OneOf S (ys ++ zs) x
  one_right ys zs v = (v.0, in_right ys zs v.0 v.1, v.2)

  one_of_list : {x : VarName} (ts : List Tree) (u : Tree) → In u ts → Reaches S u x → OneOf S (variables_of_list ts) x
  one_of_list [] u i r = absurd i
  one_of_list {x = x} (t ∷ ts) u (inl e) r = one_left (variables t) (variables_of_list ts) (one_of_tree (subst (λ w. Reaches S w x) e r))
  one_of_list (t ∷ ts) u (inr i) r = one_right (variables t) (variables_of_list ts) (one_of_list ts u i r)

  -- a set that has the values of its variables has all that a tree of its variables reaches
  pub stays_in : {Q : VarName → Type 0} → ((y : VarName) (u : Tree) → Q y → S y ≡ Some u → Inside Q u) → {t : Tree} {x : VarName} → Reaches S t x → Inside Q t → Q x
  stays_in c (here o) i = i _ o
  stays_in c (through {u = u} {y = y} o e r) i = stays_in c r (c y u (i y o) e)

leaf_in : (a : Expression) (y : VarName) → In y (leaf_variables a) → In y (variables_of_expression a)
leaf_in (leaf (variable x)) y i = i
leaf_in (leaf (integer k)) y i = absurd i
leaf_in (leaf (node f ts)) y i = absurd i
leaf_in (operation o a b) y i = elim (in_either (leaf_variables a) (leaf_variables b) y i) [
  | inl j ↦ in_left (variables_of_expression a) (variables_of_expression b) y (leaf_in a y j)
  | inr j ↦ in_right (variables_of_expression a) (variables_of_expression b) y (leaf_in b y j)
]

-- a value where something is decided to be so
abbrev kept_where : {A : Type 0} → Decided A → Option Tree → Option Tree
kept_where (inl a) o = o
kept_where (inr n) o = None

kept_so : {A : Type 0} (d : Decided A) (o : Option Tree) → A → kept_where d o ≡ o
kept_so (inl a) o h = refl
kept_so (inr n) o h = absurd (n h)

so_kept : {A : Type 0} (d : Decided A) (o : Option Tree) (t : Tree) → kept_where d o ≡ Some t → A
so_kept (inl a) o t e = a
so_kept (inr n) o t e = let clash : None ≡ Some t = e in cc

-- what a unification reads, one of its sides reaches
unify_reads : (s : StoreValue) (l r : Tree) (binds : StoreValue) (reads : set.FinSet name_cmp) → IsAcyclic (value_at s) → Unifies (value_at s) l r binds reads
    → (x : VarName) → IsTrue (set.contains reads x) → Reaches (value_at s) l x ⊎ Reaches (value_at s) r x
unify_reads s l r binds reads acyclic u x i =
    let S = value_at s in
    let known : (y : VarName) → Decided (Reaches S l y ⊎ Reaches S r y) = λ y.
    decided_either (reaches_decided (finite.len s) s (omega arith) acyclic y l) (reaches_decided (finite.len s) s (omega arith) acyclic y r) in
    let cut : VarName → Option Tree = λ y. kept_where (known y) (S y) in
    let there = looks_at_terms S cut l r (solved binds reads) u (λ y p. kept_so (known y) (S y) p) in
    let w = (binds_and_reads cut l r binds reads there).reads_bound x i in
    so_kept (known x) (S x) w.0 w.1

tail_reads : {S : VarName → Option Tree} (k : ℕ) (z x y : VarName) (e : Effect) → ReadsTail z S y e → IsTrue (set.contains e.reads x) → IsWithinGoal S (stream k z) x
tail_reads k z x y e d i = (z, inl refl, comes_reaches (before d.1 (set_in x d.0 (subst (λ q. IsTrue (set.contains q x)) d.3 i))).1)

-- what a step reads is within its goal
reads_within : (P : Program) (c : Goal) (a : Act) (n : ℕ) (s : StoreValue) (e : Effect) → IsAcyclic (value_at s) → HasEffect P c a n (value_at s) e
    → (x : VarName) → IsTrue (set.contains e.reads x) → IsWithinGoal (value_at s) c x
reads_within P (call f ts) (by_clause k) n s e acyclic d x i = let l = call_looks P f ts x (k, d.0, d.2, d.3, (d.4.2 x).0 i) in one_of_list ts l.0 l.1 l.2
reads_within P (unify l r) unified n s e acyclic d x i = elim (unify_reads s l r e.binds e.reads acyclic d.0 x i) [
  | inl p ↦ one_left (variables l) (variables r) (one_of_tree p)
  | inr p ↦ one_right (variables l) (variables r) (one_of_tree p)
]
reads_within P (assign t a) assigned n s e acyclic d x i = elim ((d.4 x).0 i) [
  | inl o ↦ one_right (variables t) (variables_of_expression a) (o.0, leaf_in a o.0 o.3, leads_reaches o.4 o.5)
  | inr j ↦ elim (unify_reads s t (integer d.0) e.binds d.1 acyclic d.3 x j) [
    | inl p ↦ one_left (variables t) (variables_of_expression a) (one_of_tree p)
    | inr p ↦ absurd ((by_variable p).1)
  ]
]
reads_within P (stream k z) (given u) n s e acyclic d x i = tail_reads k z x d.0 e d.2 i
reads_within P (stream k z) closed n s e acyclic d x i = tail_reads k z x d.0 e d.1 i
reads_within P c a n s e acyclic d x i = absurd d

-- a step that consumes a goal names nothing
pub unnamed : (P : Program) (c : Goal) (a : Act) (n : ℕ) (S : VarName → Option Tree) (e : Effect) → HasEffect P c a n S e → (x : VarName) → ¬ In x (variables_asked a)
unnamed P (call f ts) (asked gs) n S e d x i = d
unnamed P (unify l r) (asked gs) n S e d x i = d
unnamed P (assign t b) (asked gs) n S e d x i = d
unnamed P (stream k z) (asked gs) n S e d x i = d
unnamed P c (by_clause k) n S e d x i = i
unnamed P c unified n S e d x i = i
unnamed P c assigned n S e d x i = i
unnamed P c (given u) n S e d x i = i
unnamed P c closed n S e d x i = i

-- the bindings of variables of which Q holds
module _ (Q : VarName → Type 0) (known : (x : VarName) → Decided (Q x)) where
  abbrev IsNarrowed : (VarName → Option Tree) → StoreValue → Type 0
  IsNarrowed S u = ((x : VarName) → Q x → value_at u x ≡ S x) × ((x : VarName) → ¬ Q x → value_at u x ≡ None)

  narrowed_list : (es : List (VarName × Tree)) → (u : StoreValue) × IsNarrowed (λ x. finite.find name_cmp x es) u
  narrowed_list [] = (finite.empty, (λ x q. finite.get-empty name_cmp x, λ x n. finite.get-empty name_cmp x))
  narrowed_list (e ∷ es) =
      let rest = narrowed_list es in
      let found : VarName → Option Tree = λ x. finite.find name_cmp x es in
      elim (known e.0) [
        | inl q ↦ (
          finite.insert rest.0 e.0 e.1,
          (
            λ x p. finite.get-insert name_total rest.0 e.0 e.1 x ∙ by_binding (λ o w. o ≡ w) (value_at rest.0) found e.0 e.1 x (λ same. refl) (rest.1.0 x p),
            λ x n. finite.get-insert name_total rest.0 e.0 e.1 x ∙ by_binding (λ o w. o ≡ None) (value_at rest.0) found e.0 e.1 x (λ same. absurd (n (subst Q (sym same) q))) (rest.1.1 x n),
          ),
        )
        | inr m ↦ (
          rest.0,
          (
            λ x p. by_binding (λ o w. value_at rest.0 x ≡ o) found found e.0 e.1 x (λ same. absurd (m (subst Q same p))) (rest.1.0 x p),
            rest.1.1,
          ),
        )
      ]

  pub narrowed : (s : StoreValue) → (u : StoreValue) × IsNarrowed (value_at s) u
  narrowed s =
      let w = narrowed_list (finite.entries s) in
      (w.0, (λ x q. w.1.0 x q ∙ sym (finite.get-entries s x), w.1.1))

  -- what it has, the store has, and Q holds of it
  pub narrowed_less : (s u : StoreValue) → IsNarrowed (value_at s) u → (x : VarName) (t : Tree) → value_at u x ≡ Some t → Q x × (value_at s x ≡ Some t)
  narrowed_less s u w x t e = elim (known x) [
    | inl q ↦ (q, sym (w.0 x q) ∙ e)
    | inr n ↦ absurd (not_both e (w.1 x n))
  ]

-- the goals that are one goal
abbrev just : GoalName → Goal → Goals
just k b = finite.insert finite.empty k b

just_at : (k : GoalName) (b : Goal) (h : GoalName) → finite.get (just k b) h ≡ cond (eq_by_cmp goal_cmp h k) (Some b) (finite.get {R = goal_cmp} finite.empty h)
just_at k b h = finite.get-insert goal_total finite.empty k b h

pub only_goal : (k : GoalName) (b : Goal) → finite.get (just k b) k ≡ Some b
only_goal k b = just_at k b k ∙ ap (λ d. cond d (Some b) (finite.get {R = goal_cmp} finite.empty k)) (goal_tied k k refl)

only_this : (k : GoalName) (b : Goal) (h : GoalName) (c : Goal) → finite.get (just k b) h ≡ Some c → c ≡ b
only_this k b h c e = elim (goal_or_not h k) [
  | inl same ↦ same_value e (subst (λ z. finite.get (just k b) z ≡ Some b) (sym same) (only_goal k b))
  | inr other ↦ absurd (not_both e (just_at k b h ∙ ap (λ d. cond d (Some b) (finite.get {R = goal_cmp} finite.empty h)) (goal_apart h k other) ∙ finite.get-empty goal_cmp h))
]

module _ (P : Program) (accepted : IsProgram P) (s : State) (q : Record) (fired : Fires P s q) (acyclic : IsAcyclic (value_at s.store)) (Q : VarName → Type 0)
    (shut : (y : VarName) (u : Tree) → Q y → value_at s.store y ≡ Some u → Inside Q u)
    (goal : (k : GoalName) (c : Goal) (y : VarName) → q.goal ≡ Some k → finite.get s.goals k ≡ Some c → In y (variables_of_goal c) → Q y)
    (new : (y : VarName) → MakesVariable q y → Q y) (named : (y : VarName) → Names q y → Q y) where
  pub reads_in : (x : VarName) → IsTrue (set.contains q.effect.reads x) → Q x
  reads_in x i = elim (firing P s q fired) [
    | inl step ↦
        let w = reads_within P step.goal q.act q.number s.store q.effect acyclic step.effect x i in
        stays_in shut w.2 (λ y o. subst Q (sym o) (goal step.name step.goal w.0 step.named step.there w.1))
    | inr asks ↦ absurd (holds_nothing q.effect.reads asks.asks.reads x i)
  ]

  -- the step fires where there is no more than its goal and what it reads
  abbrev Small : Type 0
  Small = (v : State) × Fires P v q × IsAcyclic (value_at v.store) × HasOnly Q v

  small_taken : Taken P s q → Small
  small_taken step =
      let read : (x : VarName) → Decided (IsTrue (set.contains q.effect.reads x)) = λ x. true_decided (set.contains q.effect.reads x) in
      let cut = narrowed (λ x. IsTrue (set.contains q.effect.reads x)) read s.store in
      let less = narrowed_less (λ x. IsTrue (set.contains q.effect.reads x)) read s.store cut.0 cut.1 in
      let goals : Goals = just step.name step.goal in (
        record { goals = goals; store = cut.0 },
        fires P (record { goals = goals; store = cut.0 }) q step.name step.goal step.named step.consumed (only_goal step.name step.goal)
            (effect_local P step.goal q.act q.number (value_at s.store) (value_at cut.0) q.effect step.effect (record { less = λ x t e. (less x t e).1; kept = cut.1.0 })),
        acyclic_part (value_at cut.0) (value_at s.store) (λ x t e. (less x t e).1) acyclic,
        record {
          keys = λ x t e. reads_in x (less x t e).0;
          values = λ x t e. shut x t (reads_in x (less x t e).0) (less x t e).1;
          goals = λ k c y e i. goal step.name step.goal y step.named step.there (subst (λ z. In y (variables_of_goal z)) (only_this step.name step.goal k c e) i);
        },
      )

  small : Small
  small = elim (firing P s q fired) [
    | inl step ↦ small_taken step
    | inr asks ↦ (
      record { goals = finite.empty; store = finite.empty },
      asking_fires P (record { goals = finite.empty; store = finite.empty }) q asks,
      empty_acyclic finite.empty refl,
      record {
        keys = λ x t e. absurd (not_both e (finite.get-empty name_cmp x));
        values = λ x t e. absurd (not_both e (finite.get-empty name_cmp x));
        goals = λ k c y e i. absurd (not_both e (finite.get-empty goal_cmp k));
      },
    )
  ]

  next : HasOnly Q (after small.0 q)
  next = after_has P small.0 q small.1 Q accepted small.2 small.3 new named

  pub binds_in : (x : VarName) (t : Tree) → value_at q.effect.binds x ≡ Some t → Q x × Inside Q t
  binds_in x t e =
      let there : value_at (after small.0 q).store x ≡ Some t = bound_at q.effect.binds small.0.store x ∙ ap (λ o. option_or o (value_at small.0.store x)) e in
      (next.keys x t there, next.values x t there)

  pub makes_in : (h : GoalName) (c : Goal) (y : VarName) → own q h ≡ Some c → In y (variables_of_goal c) → Q y
  makes_in h c y e i = next.goals h c y (makes_at q.number 1 q.effect.makes (without_goal q.goal small.0.goals) h ∙ ap (λ o. option_or o (finite.get (without_goal q.goal small.0.goals) h)) e) i
