use Rattle.ghc_reader.proofs.Words.{subst, clause_view, views, test_views, goal_views, SaysAll, SaysGuard, SaysGoal, Each, doing}
use Rattle.ghc_reader.proofs.ClausesLowered.{clause_said}
use Rattle.ghc_reader.proofs.lowering.clauses.lower_clause.Goals as goal

pub returns : goal.returns
returns c =
    let head = c.in_ok-head.head.items in
    let guards = c.in_ok-guards.guards.items in
    let body = c.in_ok-body.body.items in
    clause_said (clause_view c.args.clause.now) (record { name = c.in_ok-name.name; head = head; guards = guards; body = body; variables = c.into_names.result.items }) c.new-scope.result c.lower_terms.new.scope c.lower_guards.new.scope c.lower_body.new.scope c.new-scope.ensures c.into_names.ensures c.in_ok-name.ensures.same
    (subst (λ l. SaysAll c.lower_terms.new.scope (views l) head) c.deref.ensures.value c.in_ok-head.ensures.says) c.in_ok-head.ensures.met
    (subst (λ l. Each (SaysGuard c.lower_guards.new.scope) (test_views l) guards) c.deref-2.ensures.value c.in_ok-guards.ensures.says) c.in_ok-guards.ensures.met
    (subst (λ l. Each (SaysGoal c.lower_body.new.scope) (doing (goal_views l)) body) c.deref-3.ensures.value c.in_ok-body.ensures.says) c.in_ok-body.ensures.met
