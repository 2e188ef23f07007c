use Rattle.ghc_core.proofs.Words.{subst, value_at, HasStepEffect}
use Rattle.ghc_core.proofs.Redone.{if_ok}
use Rattle.ghc_core.proofs.changes.redo.fires.Goals as goal

pub returns-clause-answer : goal.returns-clause-answer
returns-clause-answer c =
    let r = c.args.step.now in
    let has = rw (c.act.ensures, c.number.ensures, c.store.ensures, c.effect.ensures) at (c.in_ok-has.ensures.answer.0 c.if-not-has.false) in
    let same = subst (λ o. HasStepEffect c.args.program.now o r.act r.number (value_at c.args.state.now.held.store) r.effect) c.in-Some.ensures has in
    if_ok c.is_there.result (rw c.goals.ensures at c.is_there.ensures) (λ t there. (λ holds. (there.0 holds, same), λ fires. there.1 fires.0))
