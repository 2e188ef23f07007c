use Rattle.ghc_fire.proofs.Words.{err_from_is_err_and, value_at}
use Rattle.ghc_fire.proofs.Assigned.{not_solved}
use Rattle.ghc_fire.proofs.equations.attempt_unification.Goals as goal

pub returns-in_err-solved-clause-fault : goal.returns-in_err-solved-clause-fault
returns-in_err-solved-clause-fault c =
    let p = err_from_is_err_and c.from_residual.result c.from_residual.ensures.1 in
    rw (p.1, p.2)
    (not_solved (value_at c.args.store.now.held) c.args.left.now c.args.right.now c.in_err-solved.field-0.0 c.in_err-solved.ensures.answer.1)
