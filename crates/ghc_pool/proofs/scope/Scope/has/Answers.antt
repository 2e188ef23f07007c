use Rattle.ghc_pool.proofs.Words.{true, refl, sym, subst, ◌↔◌, IsTrue, Scope, IsInScope}
use Rattle.ghc_pool.proofs.Scopes.{named_in, late_in}
use Rattle.ghc_pool.proofs.scope.Scope.has.Goals as goal

pub returns-in-Any : goal.returns-in-Any
returns-in-Any c = subst (λ (s : Scope). IsTrue true ↔ IsInScope s c.args.goal) (sym c.in-Any.is) (λ yes. tt, λ h. refl)

pub returns-then-goal-since : goal.returns-then-goal-since
returns-then-goal-since c =
    subst (λ (s : Scope). IsTrue true ↔ IsInScope s c.args.goal) (sym c.in-Of.is) (late_in c.in-Of.names c.in-Of.since c.args.goal c.if-goal-since.true)

pub returns-else-goal-since : goal.returns-else-goal-since
returns-else-goal-since c =
    subst (λ (s : Scope). IsTrue c.contains.result ↔ IsInScope s c.args.goal) (sym c.in-Of.is) (named_in c.in-Of.names c.in-Of.since c.args.goal c.if-goal-since.false c.contains.result c.contains.ensures)
