use Rattle.ghc_core.proofs.Words.{◌≡◌, ap, ◌∙◌, subst, refl, Some, None, value_at, IsStanding, goal_total, goal_itself}
use Rattle.std.specs.Prelude.{cond}
use Rattle.ghc_term.specs.Answered.{Answered}
use Rattle.ghc_fire.specs.Attempt.{refused}
use Rattle.ghc_fire.specs.Attempted.{AttemptsAt, IsProposed}
use Rattle.ghc_core.specs.Proposes.{AttemptAnswers, IsProposedIn}
use Rattle.std.specs.FinMap as finite
use Rattle.ghc_core.specs.Excerpt.{Excerpt}
use Rattle.ghc_core.proofs.Excerpts.{answered_there}
use Rattle.ghc_core.proofs.excerpt.Excerpt.attempt.Goals as goal

pub returns-in_err-reserve-clause-standing : goal.returns-in_err-reserve-clause-standing
returns-in_err-reserve-clause-standing c = subst (λ (z : Excerpt). IsStanding z.world) c.self.view_is c.self.invariant.standing

pub returns-clause-answer : goal.returns-clause-answer
returns-clause-answer c =
    let i = c.self.inside in
    let w = i.about.value.world in
    let G = c.put.new.self.held in
    let here : finite.get G i.name ≡ Some i.goal =
    ap (λ m. finite.get m i.name) c.put.ensures.held ∙ finite.get-insert goal_total c.reserve.new.self.held i.name c.in_ok-share.field-0 i.name
    ∙ ap (λ b. cond b (Some c.in_ok-share.field-0) (finite.get c.reserve.new.self.held i.name)) (goal_itself i.name) ∙ ap Some c.in_ok-share.ensures in
    subst (λ (z : Excerpt). Answered (IsProposedIn z.world z.goal None) (λ f. AttemptAnswers z.world z.goal None (refused f)) c.attempt.result) c.self.view_is
    (answered_there w i.name i.program.value i.goal (value_at i.store.held) c.self.invariant G i.store.held here refl c.attempt.result
    (subst (λ P. Answered (IsProposed P G i.store.held i.name None) (λ f. AttemptsAt P G i.store.held i.name None (refused f)) c.attempt.result) c.deref.ensures c.attempt.ensures.answer))
