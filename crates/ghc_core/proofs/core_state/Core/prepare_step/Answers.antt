use Rattle.ghc_records.specs.Record.{record_of}
use Rattle.ghc_core.proofs.Words.{subst}
use Rattle.ghc_core.proofs.Preparing.{IsNext, step_answered}
use Rattle.ghc_core.proofs.core_state.Core.prepare_step.Goals as goal

pub returns-in-Ok-clause-answer : goal.returns-in-Ok-clause-answer
returns-in-Ok-clause-answer c =
    let w = c.args.self.now.world in
    let f = c.in-Ok.fired.value in
    let next = c.fired_as_next.ensures in
    step_answered w c.stands.ensures.orderly.acyclic c.args.goal c.args.choice f c.fired_as_next.result c.in-Ok.ensures.answer.0
    (subst (λ v. IsNext v (record_of f) c.fired_as_next.result) c.in-Ok.ensures.stays.world (next.step, next.room, next.fault))
