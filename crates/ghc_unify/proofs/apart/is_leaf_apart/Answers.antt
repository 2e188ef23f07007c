use Rattle.ghc_unify.proofs.Words.{rules, sym, subst, Reaches, value_at}
use Rattle.ghc_unify.proofs.Gaps.{closed_apart, free_apart, bound_apart}
use Rattle.ghc_unify.proofs.apart.is_leaf_apart.Goals as goal

pub returns-then-is_closed : goal.returns-then-is_closed
returns-then-is_closed c h = closed_apart (c.is_closed.ensures.0 c.if-is_closed.true)

pub returns-in-Some : goal.returns-in-Some
returns-in-Some c h =
    let S = value_at c.args.store.now.held in
    subst (λ t. ¬ Reaches S t c.args.x) c.in-Var.ensures.shown (bound_apart (search rules) (sym c.in-Some.ensures) (c.is_closed-in-Some.ensures.0 h))

pub returns-in-None : goal.returns-in-None
returns-in-None c h =
    let S = value_at c.args.store.now.held in
    subst (λ t. ¬ Reaches S t c.args.x) c.in-Var.ensures.shown (free_apart (search rules) (sym c.in-None.ensures))
