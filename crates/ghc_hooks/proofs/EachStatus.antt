-- Each goal has a status in an acyclic finite store.
use Rattle.ghc_hooks.proofs.Words.{◌≡◌, ◌≢◌, ℕ, suc, false, List, length, refl, subst, inl, inr, ◌⊎◌, arith, Option, Some, None, slice_get_within, VarName, Fault, Waits, Tree, Expression, Goal, call, unify, assign, stream, IsAcyclic, StoreValue, value_at, in_at, Clause, Program, IsClause, IsFor, IsProgram, is_stream, leaf_variables, EndsIn, Wants, Value, number, waits as waits_on, bad, HasValue, WaitsFor, Outcome, refuses, accepts, HasOutcome, each_outcome, each_value, refuses_waits, accepts_waits, SetOf, no_set, restated_set, below_set, number_waits_not, ends_once, Answer, proposes, refused, SomeWaitsFor, Attempts, each_answer, clause_decided, clause_once, Status, ready, waiting, failed, streaming, Awaits, HasStatus, is_ready, is_waiting, is_failed, is_stream_goal, EachGoalHasAStatus}
use Rattle.ghc_match.specs.Match.{waits}

-- the refusal is that of a goal that waits, or another one
waits_or_not : (f : Fault) → (f ≡ Waits) ⊎ (f ≢ Waits)
waits_or_not Waits = inl refl
waits_or_not f = inr (λ e. cc)

module _ (P : Program) (accepted : IsProgram P) (s : StoreValue) (acyclic : IsAcyclic (value_at s)) where
  abbrev S : VarName → Option Tree
  S = value_at s

  module _ (f : List ℕ) (ts : List Tree) where
    abbrev WaitsAt : ℕ → VarName → Type 0
    WaitsAt k x = (c : Clause) × IsClause P k c × IsFor f ts c × WaitsFor c ts S x

    waits_at : (k : ℕ) → SetOf (WaitsAt k)
    waits_at k = elim (clause_decided P f ts k) [
      | inr none ↦ no_set (λ x w. none (w.0, w.1, w.2))
      | inl c ↦
          let ic = c.1 in
          let o = each_outcome c.0 ts s (accepted c.0 (in_at P ic.0 c.0 ic.2)).linear acyclic in
          restated_set
          (λ x w. (c.0, c.1, c.2, w))
          (λ x w. subst (λ d. WaitsFor d ts S x) (clause_once P w.1 c.1) w.3)
          (by c.0 o.0 o.1)
    ] where
      by : (c : Clause) (o : Outcome) → HasOutcome c ts S o → SetOf (WaitsFor c ts S)
      by c refuses h = no_set (refuses_waits c ts S h)
      by c (waits xs) h = (xs, h.0)
      by c (accepts theta reads) h = no_set (accepts_waits c ts S h.0)

    all_waits : SetOf (SomeWaitsFor P f ts S)
    all_waits = restated_set
        (λ x h. let w = h.2 in (h.0, w.0, w.1, w.2, w.3))
        (λ x w. let i = w.2 in (w.0, (let l = slice_get_within P i.0 w.1 i.2 in omega (arith, i.1, l)), (w.1, w.2, w.3, w.4)))
        (below_set WaitsAt waits_at (suc (length P)))

  wanted : (a : Expression) (v : Value) → HasValue S a v → SetOf (Wants (EndsIn S) (leaf_variables a))
  wanted a (number k) h = no_set (λ x w. number_waits_not ends_once h w)
  wanted a (waits_on xs) h = (xs, h.0)
  wanted a bad h = no_set h.0

  awaited : (g : Goal) → SetOf (Awaits P S g)
  awaited (call f ts) = all_waits f ts
  awaited (unify l r) = no_set (λ x h. h)
  awaited (assign t a) = let v = each_value s a acyclic in wanted a v.0 v.1
  awaited (stream k y) = no_set (λ x h. h)

  by_answer : (g : Goal) → is_stream g ≡ false → (a : Answer) → Attempts P S (Some g) None a → (t : Status) × HasStatus P S g t
  by_answer g not_stream (proposes act e) h = (ready, is_ready act e h)
  by_answer g not_stream (refused f) h = elim (waits_or_not f) [
    | inl e ↦ let xs = awaited g in (waiting xs.0, is_waiting (subst (λ z. Attempts P S (Some g) None (refused z)) e h) xs.1)
    | inr n ↦ (failed f, is_failed not_stream h n)
  ]

  has_status : (g : Goal) → (t : Status) × HasStatus P S g t
  has_status (call f ts) = let a = each_answer P s (Some (call f ts)) None accepted acyclic in by_answer (call f ts) refl a.0 a.1
  has_status (unify l r) = let a = each_answer P s (Some (unify l r)) None accepted acyclic in by_answer (unify l r) refl a.0 a.1
  has_status (assign t b) = let a = each_answer P s (Some (assign t b)) None accepted acyclic in by_answer (assign t b) refl a.0 a.1
  has_status (stream k y) = (streaming, is_stream_goal refl)

pub each_status : EachGoalHasAStatus
each_status P s g accepted acyclic = has_status P accepted s acyclic g
