use Rattle.ghc_pool.proofs.Words.{sym, subst, Option, All-contains, GoalName, In, in_contains, Scope, IsInQuestion, Covers}
use Rattle.ghc_pool.proofs.runs.stretches.scope_of.Goals as goal

pub returns-in-None : goal.returns-in-None
returns-in-None c = subst (λ (root : Option GoalName). Covers root c.args.core.now.world Scope.Any) (sym c.in-None.is) tt

pub returns-in_ok-names-in-Some : goal.returns-in_ok-names-in-Some
returns-in_ok-names-in-Some c =
    let w = c.args.core.now.world in
    let gs = c.args.names.now in
    let keys = c.in_ok-names-in-Some.names.keys in
    subst (λ (root : Option GoalName). Covers root w (Scope.Of c.in_ok-names-in-Some.names c.next.result)) (sym c.in-Some.is) (
      c.next.ensures,
      λ g i. subst (λ (root : Option GoalName). IsInQuestion root w.kept g) c.in-Some.is (c.requires g (All-contains (λ (h : GoalName). In h gs) keys g c.in_ok-names-in-Some.ensures (in_contains keys g i))),
    )
