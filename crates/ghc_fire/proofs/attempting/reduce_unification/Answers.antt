use Rattle.ghc_fire.proofs.Words.{refl, sym, subst, UnificationAnswers, IsReductionOf}
use Rattle.ghc_fire.proofs.attempting.reduce_unification.Goals as goal

pub returns-clause-fired : goal.returns-clause-fired
returns-clause-fired c =
    let r = c.args.reduction.now in
    subst (λ f. IsReductionOf r.step r.name r.goal.now f) (sym c.in_ok-fired.ensures.step) refl

pub returns-clause-proposed : goal.returns-clause-proposed
returns-clause-proposed c = λ P. rw c.in_ok-fired.ensures.step (UnificationAnswers.solves c.in_ok-effect.ensures.effect)
