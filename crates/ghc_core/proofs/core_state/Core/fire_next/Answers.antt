use Rattle.ghc_core.proofs.Words.{subst, Answered, AttemptAnswers, IsFiredNext}
use Rattle.ghc_fire.specs.Attempt.{refused}
use Rattle.ghc_core.specs.Core.{Core}
use Rattle.ghc_core.proofs.core_state.Core.fire_next.Goals as goal

pub returns-clause-answer : goal.returns-clause-answer
returns-clause-answer c =
    subst (λ (x : Core). Answered (λ f. IsFiredNext x.world c.args.goal c.args.choice f.value) (λ e. AttemptAnswers x.world c.args.goal c.args.choice (refused e)) c.fire_as.result) c.self.view_is
    (rw (c.deref.ensures, c.goals.ensures, c.store.ensures) at c.fire_as.ensures.answer)
