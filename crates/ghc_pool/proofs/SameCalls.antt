-- A step that was proposed of a goal that is not spied takes no spied goal, wherever it holds.
use Rattle.ghc_pool.proofs.Words.{◌≡◌, ◌∙◌, ℕ, List, length, sym, ap, subst, subst₂, Option, Some, None, VarName, GoalName, Tree, Goal, call, unify, assign, stream, value_at, Clause, Program, IsClause, IsFor, Act, ByClause as by_clause, proposes, Effect, HasEffect, no_step, clause_once, Opening, same_value, Proposal, World, AttemptAnswers, StillHolds, proposed_holds, Spies, HasPredicate, IsSpied, IsSpiedIn}
use Rattle.std.specs.FinMap as finite

-- one clause is for calls of one predicate
one_predicate : (P : Program) (spies : Spies) (f h : List ℕ) (ts us : List Tree) (k : ℕ) (c d : Clause) → IsClause P k c → IsFor f ts c → IsClause P k d → IsFor h us d → HasPredicate spies h (length us) → HasPredicate spies f (length ts)
one_predicate P spies f h ts us k c d first fits second suits spied =
    let same : d ≡ c = clause_once P second first in
    let name : h ≡ f = sym suits.0 ∙ ap (λ (x : Clause). x.name) same ∙ fits.0 in
    let arity : length us ≡ length ts = sym suits.1 ∙ ap (λ (x : Clause). length x.head) same ∙ fits.1 in
    subst₂ (λ (x : List ℕ) (n : ℕ). HasPredicate spies x n) name arity spied

-- goals on which one act has an effect are both spied, or neither is
same_call : (P : Program) (spies : Spies) (a b : Goal) (act : Act) (S T : VarName → Option Tree) (e d : Effect) → HasEffect P a act no_step S e → HasEffect P b act no_step T d → IsSpied spies b → IsSpied spies a
same_call P spies (call f ts) (call h us) (by_clause k) S T e d x y spied = one_predicate P spies f h ts us k x.0 y.0 x.2 x.3 y.2 y.3 spied
same_call P spies (unify l r) (call h us) (by_clause k) S T e d x y spied = absurd x
same_call P spies (assign t b) (call h us) (by_clause k) S T e d x y spied = absurd x
same_call P spies (stream n s) (call h us) (by_clause k) S T e d x y spied = absurd x
same_call P spies a (unify l r) act S T e d x y spied = absurd spied
same_call P spies a (assign t b) act S T e d x y spied = absurd spied
same_call P spies a (stream n s) act S T e d x y spied = absurd spied
same_call P spies a (call h us) act S T e d x y spied = absurd y

pub held_unspied : (spies : Spies) (before u : World) (g : GoalName) (p : Proposal) → before.opening ≡ u.opening → p.goal ≡ g → finite.get before.state.goals g ≡ Some p.consumed → AttemptAnswers before g None (proposes p.act p.effect)
    → ¬ IsSpiedIn spies before g → StillHolds u p → ¬ IsSpiedIn spies u g
held_unspied spies before u g p same named there proposed unspied holds s =
    let was = proposed_holds before g None p.consumed p.act p.effect there proposed in
    let effect : HasEffect u.opening.program p.consumed p.act no_step (value_at before.state.store) p.effect =
    subst (λ (o : Opening). HasEffect o.program p.consumed p.act no_step (value_at before.state.store) p.effect) same was.0 in
    let now : s.0 ≡ holds.0 = same_value s.1 (subst (λ (n : GoalName). finite.get u.state.goals n ≡ Some holds.0) named holds.2) in
    unspied (p.consumed, there, same_call u.opening.program spies p.consumed holds.0 p.act (value_at before.state.store) (value_at u.state.store) p.effect p.effect effect holds.3 (subst (IsSpied spies) now s.2))
