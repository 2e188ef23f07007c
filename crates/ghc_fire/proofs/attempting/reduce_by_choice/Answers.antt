use Rattle.ghc_fire.proofs.Words.{refl, sym, subst, IsReductionOf}
use Rattle.ghc_fire.proofs.attempting.reduce_by_choice.Goals as goal

pub returns-clause-fired : goal.returns-clause-fired
returns-clause-fired c =
    let r = c.args.reduction.now in
    subst (λ f. IsReductionOf r.step r.name r.goal.now f) (sym c.in_ok-fired.ensures.step) refl

pub returns-clause-proposed : goal.returns-clause-proposed
returns-clause-proposed c = rw c.in_ok-fired.ensures.step c.in_ok-effect.ensures.proposed
