use Rattle.ghc_pool.proofs.Words.{◌∙◌, subst, subst₂, not_both, World, IsSpiedIn, NotesByGoal, AreKept, WasTried, WasTaken}
use Rattle.ghc_pool.proofs.Failures.{tried_met, taken_met, step_waits, waits_not_failed}
use Rattle.ghc_pool.proofs.runs.meet.meet.Goals as goal

pub returns-then-not-is_in_question_since-clause-met : goal.returns-then-not-is_in_question_since-clause-met
returns-then-not-is_in_question_since-clause-met c =
    let before = c.args.core.now in
    let after = c.pass.new.core in
    tried_met c.args.spies.now c.args.root before.world after.world c.args.goal before.notes after.notes c.pass.result c.pass.ensures.world c.pass.ensures.kept c.pass.ensures.tried c.requires.unfailed
    (λ _ q. absurd (not_both c.is_in_question_since.result c.if-not-is_in_question_since.true (c.is_in_question_since.ensures.1 q)))

pub returns-then-is_spied_in-clause-met : goal.returns-then-is_spied_in-clause-met
returns-then-is_spied_in-clause-met c = c.pass_spied.ensures.met c.args.spies.now c.args.root c.requires.unfailed

pub returns-in-Err-Waits-clause-met : goal.returns-in-Err-Waits-clause-met
returns-in-Err-Waits-clause-met c =
    let met = c.pass-in-Err-Waits in
    let before = c.args.core.now in
    let after = met.new.core in
    let stays = c.prepare_step.ensures.stays in
    let waits = step_waits before.world c.args.goal c.in-Err-Waits.field-0 c.in-Err-Waits.field-0-is c.in-Err-Waits.ensures.answer.1 in
    tried_met c.args.spies.now c.args.root before.world after.world c.args.goal before.notes after.notes met.result (met.ensures.world ∙ stays.world)
    (subst (λ (n : NotesByGoal). AreKept n after.notes) stays.notes met.ensures.kept)
    (subst₂ (λ (w : World) (n : NotesByGoal). WasTried w c.args.goal n met.result after.notes) stays.world stays.notes met.ensures.tried) c.requires.unfailed
    (λ noted _. waits_not_failed before.world c.args.goal before.notes after.notes c.stands.ensures.orderly.acyclic waits noted)

pub returns-in-Ok-clause-met : goal.returns-in-Ok-clause-met
returns-in-Ok-clause-met c =
    let before = c.args.core.now in
    let after = c.take.new.core in
    let stays = c.prepare_step.ensures.stays in
    let asked = c.is_in_question_since.ensures.0 c.if-not-is_in_question_since.false in
    let unspied : ¬ IsSpiedIn c.args.spies.now before.world c.args.goal = λ s. not_both c.is_spied_in.result c.if-is_spied_in.false (c.is_spied_in.ensures.1 s) in
    taken_met c.args.spies.now c.args.root before.world after.world c.args.goal before.notes after.notes before.untried c.in-Ok.step c.take.result c.stands.ensures.standing c.stands.ensures.exact c.in-Ok.ensures.answer.0 asked unspied c.requires.unfailed
    (subst₂ (λ (w : World) (n : NotesByGoal). WasTaken w n c.in-Ok.step c.take.result after.world after.notes) stays.world stays.notes c.take.ensures.taken)

pub returns-in-Ok-clause-passed : goal.returns-in-Ok-clause-passed
returns-in-Ok-clause-passed c = c.take.ensures.passed c.args.core.now c.args.goal
