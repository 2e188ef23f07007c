-- Each act on a goal has an effect in an acyclic finite store, or has none.
use Rattle.ghc_fire.proofs.Words.{◌≡◌, ℕ, suc, zero, ℤ, List, [], ◌∷◌, length, refl, sym, ◌∙◌, subst, inl, inr, ◌⊎◌, arith, Option, Some, None, slice_get, coded_list, coded_ℕ, VarName, Tree, variable, integer, node, Trees, none as no_tree, more, nil, cons, Occurs, OccursIn, Expression, call, unify, assign, stream, In, Variables, Leads, Comes, IsAcyclic, StoreValue, value_at, leads_once, Decided, nat_decided, same_decided, in_at, chain, Clause, Program, IsClause, IsFor, IsProgram, leaf_variables, fresh_variables, EndsIn, Number, Value, number, waits as waits_on, bad, HasValue, Outcome, accepts, HasOutcome, each_outcome, each_value, Listing, restated, itself, over, outcomes_exclude, either_set, listed_set, own_set, number_once, number_waits_not, ends_once, Unifies, Ending, solved, HasEnding, each_ending, left_end, ends, one_ending, ByClause as by_clause, Unified as unified, Assigned as assigned, Given as given, Closed as closed, made, body_made, Effect, IsOnChainsOf, Reduces, Unites, Assigns, Feeds, Closes, HasEffect, effect_code, EachActHasAnEffectOrNone, EachEffectIsDecided}
use Rattle.std.specs.FinMap as finite
use Rattle.std.specs.FinSet as set
use Rattle.ghc_fire.proofs.Steps.{clause_once, effect_once}

-- something has P, or nothing has it
abbrev pub SomeOrNone : {X : Type 0} → (X → Type 0) → Type 0
SomeOrNone {X} P = ((x : X) × P x) ⊎ ((x : X) → ¬ P x)

-- clause k is there for the call, or is not
pub clause_decided : (P : Program) (f : List ℕ) (ts : List Tree) (k : ℕ) → Decided ((c : Clause) × IsClause P k c × IsFor f ts c)
clause_decided P f ts zero = inr (λ h. let i = h.1 in absurd (omega (arith, i.1)))
clause_decided P f ts (suc i) =
    elim (slice_get P i) as (λ o. slice_get P i ≡ o → Decided ((c : Clause) × IsClause P (suc i) c × IsFor f ts c)) [
      | None ↦ λ e. inr (λ h.
          let j = h.1 in
          let same : j.0 ≡ i = omega (arith, j.1) in
          let no_clause : None ≡ Some h.0 = sym e ∙ subst (λ n. slice_get P n ≡ Some h.0) same j.2 in
          cc)
      | Some c ↦ λ e.
          let here : IsClause P (suc i) c = (i, omega arith, e) in
          elim (same_decided (coded_list coded_ℕ) c.name f) [
            | inr n ↦ inr (λ h. n (subst (λ d. d.name ≡ f) (clause_once P h.1 here) h.2.0))
            | inl p ↦ elim (nat_decided (length c.head) (length ts)) [
              | inr n ↦ inr (λ h. n (subst (λ d. length d.head ≡ length ts) (clause_once P h.1 here) h.2.1))
              | inl q ↦ inl (c, here, (p, q))
            ]
          ]
    ] refl

mutual
  -- a variable stands in the tree, or none
  open_or_closed : (t : Tree) → ((x : VarName) × Occurs x t) ⊎ ((x : VarName) → ¬ Occurs x t)
  open_or_closed (variable x) = inl (x, refl)
  open_or_closed (integer k) = inr (λ x o. o)
  open_or_closed (node f ts) = open_or_closed_all ts

  open_or_closed_all : (ts : Trees) → ((x : VarName) × OccursIn x ts) ⊎ ((x : VarName) → ¬ OccursIn x ts)
  open_or_closed_all no_tree = inr (λ x o. o)
  open_or_closed_all (more t ts) = elim (open_or_closed t) [
    | inl o ↦ inl (o.0, inl o.1)
    | inr n ↦ elim (open_or_closed_all ts) [ inl o ↦ inl (o.0, inr o.1) | inr m ↦ inr (λ x o. elim o [ inl a ↦ n x a | inr b ↦ m x b ]) ]
  ]

module _ (P : Program) (n : ℕ) (s : StoreValue) (acyclic : IsAcyclic (value_at s)) where
  abbrev S : VarName → Option Tree
  S = value_at s

  -- a call by a clause that accepts it
  pub reduced : (f : List ℕ) (ts : List Tree) (k : ℕ) (c : Clause) (theta : StoreValue) (reads : Variables) → IsClause P k c → IsFor f ts c → HasOutcome c ts S (accepts theta reads)
      → (e : Effect) × HasEffect P (call f ts) (by_clause k) n S e
  reduced f ts k c theta reads ic is o =
      (record { reads = reads; binds = finite.empty; makes = body_made c theta n; fresh = length (fresh_variables c) }, (c, theta, ic, is, o, refl, refl, refl))

  of_call : IsProgram P → (f : List ℕ) (ts : List Tree) (k : ℕ) → SomeOrNone (Reduces P f ts k n S)
  of_call accepted f ts k = elim (clause_decided P f ts k) [
    | inr none ↦ inr (λ e h. none (h.0, h.2, h.3))
    | inl c ↦ let o = each_outcome c.0 ts s (accepted c.0 (in_at P c.1.0 c.0 c.1.2)).linear acyclic in by c.0 c.1 c.2 o.0 o.1
  ] where
    other : (c : Clause) (o : Outcome) → IsClause P k c → HasOutcome c ts S o → ((theta : StoreValue) (reads : Variables) → ¬ (o ≡ accepts theta reads)) → (e : Effect) → ¬ Reduces P f ts k n S e
    other c o ic h differs e r = differs r.1 e.reads (outcomes_exclude c ts S o (accepts r.1 e.reads) h (subst (λ d. HasOutcome d ts S (accepts r.1 e.reads)) (clause_once P r.2 ic) r.4))

    by : (c : Clause) → IsClause P k c → IsFor f ts c → (o : Outcome) → HasOutcome c ts S o → SomeOrNone (Reduces P f ts k n S)
    by c ic is (accepts theta reads) h = inl (reduced f ts k c theta reads ic is h)
    by c ic is o h = inr (other c o ic h (λ t r e. cc))

  pub united : (l r : Tree) (binds : StoreValue) (reads : Variables) → Unifies S l r binds reads → (e : Effect) × Unites l r S e
  united l r binds reads u = (record { reads = reads; binds = binds; makes = []; fresh = 0 }, (u, refl, refl))

  of_unification : (l r : Tree) → SomeOrNone (Unites l r S)
  of_unification l r = let e = each_ending s l r acyclic in by e.0 e.1 where
    other : (o : Ending) → HasEnding S l r o → ((b : StoreValue) (q : Variables) → ¬ (o ≡ solved b q)) → (e : Effect) → ¬ Unites l r S e
    other o h differs e u = differs e.binds e.reads (one_ending S l r o (solved e.binds e.reads) acyclic h u.0)

    by : (o : Ending) → HasEnding S l r o → SomeOrNone (Unites l r S)
    by (solved binds reads) h = inl (united l r binds reads h)
    by o h = inr (other o h (λ b q e. cc))

  -- the variables on the chains of an expression
  on_chains : (a : Expression) → Listing (IsOnChainsOf S a)
  on_chains a = restated
      (λ x h. let k = chain (finite.len s) s (omega arith) acyclic (variable h.0) in (h.0, k.«end», k.passed, h.1, k.leads, h.2))
      (λ x h. let k = chain (finite.len s) s (omega arith) acyclic (variable h.0) in (h.0, h.3, subst (In x) (leads_once h.4 k.leads).0 h.5))
      (over (leaf_variables a) (λ y x. In x (chain (finite.len s) s (omega arith) acyclic (variable y)).passed) (λ y i. itself (chain (finite.len s) s (omega arith) acyclic (variable y)).passed))

  pub made_equal : (t : Tree) (a : Expression) (v : ℤ) (binds : StoreValue) (rest : Variables) → Number (EndsIn S) a v → Unifies S t (integer v) binds rest → (e : Effect) × Assigns t a S e
  made_equal t a v binds rest k u =
      let all = either_set (listed_set (on_chains a)) (own_set rest) in
      (record { reads = all.0; binds = binds; makes = []; fresh = 0 }, (v, rest, k, u, all.1, refl, refl))

  of_assignment : (t : Tree) (a : Expression) → SomeOrNone (Assigns t a S)
  of_assignment t a = let v = each_value s a acyclic in by v.0 v.1 where
    other : (v : ℤ) → Number (EndsIn S) a v → (o : Ending) → HasEnding S t (integer v) o → ((b : StoreValue) (q : Variables) → ¬ (o ≡ solved b q)) → (e : Effect) → ¬ Assigns t a S e
    other v k o h differs e d =
        differs e.binds d.1 (one_ending S t (integer v) o (solved e.binds d.1) acyclic h (subst (λ i. Unifies S t (integer i) e.binds d.1) (number_once ends_once d.2 k) d.3))

    with_value : (v : ℤ) → Number (EndsIn S) a v → (o : Ending) → HasEnding S t (integer v) o → SomeOrNone (Assigns t a S)
    with_value v k (solved binds rest) h = inl (made_equal t a v binds rest k h)
    with_value v k o h = inr (other v k o h (λ b q e. cc))

    by : (v : Value) → HasValue S a v → SomeOrNone (Assigns t a S)
    by (number v) k = let e = each_ending s t (integer v) acyclic in with_value v k e.0 e.1
    by (waits_on xs) w = inr (λ e h. number_waits_not ends_once h.2 w.1.1)
    by bad w = inr (λ e h. w.1 h.0 h.2)

  -- the tail of a stream ends unbound, or in a value
  unbound_tail : (y : VarName) → Decided ((x : VarName) × (xs : List VarName) × Comes S (variable y) xs x × (S x ≡ None))
  unbound_tail y = let k = chain (finite.len s) s (omega arith) acyclic (variable y) in at k.«end» k.leads where
    bound : {xs : List VarName} (e : Tree) → Leads S (variable y) xs e → ((x : VarName) → ¬ (e ≡ variable x)) → ¬ ((x : VarName) × (ys : List VarName) × Comes S (variable y) ys x × (S x ≡ None))
    bound e l differs t = differs t.0 (ends t.3 l (t.1, t.2))

    at : {xs : List VarName} (e : Tree) → Leads S (variable y) xs e → Decided ((x : VarName) × (ys : List VarName) × Comes S (variable y) ys x × (S x ≡ None))
    at (variable x) l = let c = left_end l in inl (x, c.0, c.2, c.3)
    at e l = inr (bound e l (λ x q. cc))

  of_input : (k : ℕ) (y : VarName) (u : Tree) → SomeOrNone (Feeds k y u n S)
  of_input k y u = elim (open_or_closed u) [
    | inl o ↦ inr (λ e h. h.1 o.0 o.1)
    | inr none ↦ elim (unbound_tail y) [
      | inr bound ↦ inr (λ e h. let r = h.2 in bound (h.0, r.0, r.1, r.2))
      | inl t ↦ inl (
        record { reads = set.from_list t.1; binds = finite.insert finite.empty t.0 (cons u (variable (made n 1))); makes = stream k (made n 1) ∷ []; fresh = 1 },
        (t.0, none, (t.1, t.2, t.3, refl), refl, refl, refl),
      )
    ]
  ]

  of_close : (y : VarName) → SomeOrNone (Closes y S)
  of_close y = elim (unbound_tail y) [
    | inr bound ↦ inr (λ e h. let r = h.1 in bound (h.0, r.0, r.1, r.2))
    | inl t ↦ inl (record { reads = set.from_list t.1; binds = finite.insert finite.empty t.0 nil; makes = []; fresh = 0 }, (t.0, (t.1, t.2, t.3, refl), refl, refl, refl))
  ]

pub each_effect : EachActHasAnEffectOrNone
each_effect P (call f ts) (by_clause k) n s accepted acyclic = of_call P n s acyclic accepted f ts k
each_effect P (unify l r) unified n s accepted acyclic = of_unification P n s acyclic l r
each_effect P (assign t a) assigned n s accepted acyclic = of_assignment P n s acyclic t a
each_effect P (stream k y) (given u) n s accepted acyclic = of_input P n s acyclic k y u
each_effect P (stream k y) closed n s accepted acyclic = of_close P n s acyclic y
each_effect P g a n s accepted acyclic = inr (λ e h. h)

pub effect_decided : EachEffectIsDecided
effect_decided P g a n s e accepted acyclic = elim (each_effect P g a n s accepted acyclic) [
  | inr none ↦ inr (none e)
  | inl h ↦ elim (same_decided effect_code h.0 e) [
    | inl p ↦ inl (subst (HasEffect P g a n (value_at s)) p h.1)
    | inr differs ↦ inr (λ d. differs (effect_once P g a n (value_at s) h.0 e acyclic h.1 d))
  ]
]
