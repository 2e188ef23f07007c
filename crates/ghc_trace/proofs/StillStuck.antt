-- A goal that has failed, or waits for what stays unbound, can take no step in a store with more bindings.
use Rattle.ghc_trace.proofs.Words.{◌≡◌, ◌⊎◌, ℕ, List, refl, sym, subst, inl, inr, Option, Some, None, in_at, VarName, Fault, Tree, Goal, call, unify, assign, stream, IsAcyclic, StoreValue, value_at, Program, AssignmentAnswers, Attempts, CallAnswers, UnificationAnswers, refused, no_step}
use Rattle.std.specs.Prelude.{false}
use Rattle.ghc_term.specs.Expression.{Expression}
use Rattle.ghc_term.specs.Tree.{integer}
use Rattle.ghc_flat.specs.Clause.{Clause, IsClause, IsFor}
use Rattle.ghc_flat.specs.Flat.{IsProgram, is_stream}
use Rattle.ghc_match.specs.Match.{Accepts, HasOutcome, Outcome, accepts, refuses, waits}
use Rattle.ghc_match.proofs.Chains.{chains}
use Rattle.ghc_match.proofs.EachOutcome.{each_outcome}
use Rattle.ghc_match.proofs.Values.{ends_once, number_once}
use Rattle.ghc_unify.specs.Unify.{Clashes, Cycles, Unifies}
use Rattle.ghc_fire.specs.declared.act.Act.{Act}
use Rattle.ghc_fire.specs.declared.act.Act.TheVariants.{ByClause as by_clause, Unified as unified, Assigned as assigned}
use Rattle.ghc_fire.specs.Attempt.{SomeAccepts, SomeWaitsFor}
use Rattle.ghc_fire.specs.Effect.{Effect, HasEffect}
use Rattle.ghc_hooks.specs.Status.{Awaits}
use Rattle.ghc_trace.proofs.Solving.{Has, fails_on}
use Rattle.ghc_trace.proofs.Refusing.{number_back, number_on, still_refuses, still_waits, waits_on}

-- the store s' has the bindings of s
module _ (P : Program) (accepted : IsProgram P) (s s' : StoreValue) (acyclic : IsAcyclic (value_at s)) (acyclic' : IsAcyclic (value_at s')) (has : Has (value_at s') (value_at s)) where
  abbrev S : VarName → Option Tree
  S = value_at s

  abbrev S' : VarName → Option Tree
  S' = value_at s'

  module _ (f : List ℕ) (ts : List Tree) (none : ¬ SomeAccepts P f ts S) (free : (x : VarName) → SomeWaitsFor P f ts S x → S' x ≡ None) where
    -- a clause that did not accept, and waits only for what stays unbound, does not accept
    clause_stuck : (k : ℕ) (c : Clause) → IsClause P k c → IsFor f ts c → ¬ Accepts c ts S'
    clause_stuck k c ic is = let o = each_outcome c ts s (accepted c (in_at P ic.0 c ic.2)).linear acyclic in by o.0 o.1
      where
        by : (o : Outcome) → HasOutcome c ts S o → ¬ Accepts c ts S'
        by refuses h = still_refuses S S' has c ts (chains s acyclic) h
        by (waits xs) h = let w = h.1 in still_waits S S' has c ts w.0 w.1 (free w.0 (k, c, ic, is, w.1))
        by (accepts theta reads) h = absurd (none (k, c, ic, is, h.0))

    call_stuck : (a : Act) (n : ℕ) (e : Effect) → ¬ HasEffect P (call f ts) a n S' e
    call_stuck (by_clause k) n e d = clause_stuck k d.0 d.2 d.3 d.4.0
    call_stuck a n e d = d

  unify_stuck : (l r : Tree) → Clashes S l r ⊎ Cycles S l r → (a : Act) (n : ℕ) (e : Effect) → ¬ HasEffect P (unify l r) a n S' e
  unify_stuck l r failed unified n e d = fails_on S s' l r e.binds e.reads has acyclic' failed d.0
  unify_stuck l r failed a n e d = d

  -- where the goal was refused, and for what it waits stays unbound
  abbrev WaitsForNothing : Goal → Fault → Type 0
  WaitsForNothing b f = f ≡ Fault.Waits → (x : VarName) → Awaits P S b x → S' x ≡ None

  of_call : (g : List ℕ) (ts : List Tree) (f : Fault) → CallAnswers no_step P g ts S (refused f) → WaitsForNothing (call g ts) f → (a : Act) (n : ℕ) (e : Effect) → ¬ HasEffect P (call g ts) a n S' e
  of_call g ts f (CallAnswers.waits none w) free = call_stuck g ts none (free refl)
  of_call g ts f (CallAnswers.no_match none idle) free = call_stuck g ts none (λ x w. absurd (idle x w))

  of_unification : (l r : Tree) (f : Fault) → UnificationAnswers P l r S (refused f) → (a : Act) (n : ℕ) (e : Effect) → ¬ HasEffect P (unify l r) a n S' e
  of_unification l r f (UnificationAnswers.clashes c) = unify_stuck l r (inl c)
  of_unification l r f (UnificationAnswers.cycles c) = unify_stuck l r (inr c)

  of_assignment : (t : Tree) (b : Expression) (f : Fault) → AssignmentAnswers P t b S (refused f) → WaitsForNothing (assign t b) f → (a : Act) (n : ℕ) (e : Effect) → ¬ HasEffect P (assign t b) a n S' e
  of_assignment t b f (AssignmentAnswers.waits xs h) free assigned n e d = let w = h.1 in waits_on S S' has b w.0 w.1 (free refl w.0 w.1) d.0 d.2
  of_assignment t b f (AssignmentAnswers.has_no_value h) free assigned n e d = h.1 d.0 (number_back S S' has (chains s acyclic) b d.0 h.0 d.2)
  of_assignment t b f (AssignmentAnswers.clashes v h c) free assigned n e d =
      let same : v ≡ d.0 = number_once ends_once (number_on S S' has h) d.2 in
      fails_on S s' t (integer v) e.binds d.1 has acyclic' (inl c) (subst (λ k. Unifies S' t (integer k) e.binds d.1) (sym same) d.3)
  of_assignment t b f h free a n e d = d

  -- a goal that was refused can take no step
  pub refused_stuck : (b : Goal) (f : Fault) → is_stream b ≡ false → Attempts P S (Some b) None (refused f) → WaitsForNothing b f → (a : Act) (n : ℕ) (e : Effect) → ¬ HasEffect P b a n S' e
  refused_stuck (call g ts) f plain h free = of_call g ts f h free
  refused_stuck (unify l r) f plain h free = of_unification l r f h
  refused_stuck (assign t b) f plain h free = of_assignment t b f h free
  refused_stuck (stream k x) f plain h free = cc
