use Rattle.ghc_console.proofs.CitedWords.{sym, subst, string_bytes, World, CanChange, Comes as comes, Coming, RepliesToStep, TellsChange, steps}
use Rattle.ghc_console.proofs.StepReplies.{if_ok, on_ok, step_refused, step_taken}
use Rattle.ghc_console.proofs.replies.step.Goals as goal

pub tell_and_make-requires-clause-found : goal.tell_and_make-requires-clause-found
tell_and_make-requires-clause-found c =
    rw c.in_ok-addition-in-Ok.ensures (subst (λ (w : World). CanChange w (comes Coming.Next c.in-Ok.step)) (sym c.in-Ok.ensures.stays.world) c.in-Ok.ensures.answer.0.3.1)

pub returns-in_ok-addition-in-Ok-clause-text : goal.returns-in_ok-addition-in-Ok-clause-text
returns-in_ok-addition-in-Ok-clause-text c = on_ok c.tell_and_make.result c.tell_and_make.ensures.told (λ told.
    let s = c.in-Ok.ensures.answer.0 in
    let r = c.in-Ok.step in
    let text = string_bytes c.tell_and_make.new.reply in
    let v = c.tell_and_make.new.core.world in
    let of_step = subst (λ q. TellsChange c.prepare_step.new.self.world (comes Coming.Next q) text v) c.in_ok-addition-in-Ok.ensures told in
    subst (λ w. RepliesToStep w c.args.goal c.args.choice text v) c.in_ok-settle.ensures.world
    (steps s.0 s.1 s.2 (step_taken c.settle.new.core.world v s.0 r text s.3 (subst (λ w. TellsChange w (comes Coming.Next r) text v) c.in-Ok.ensures.stays.world of_step))))

pub returns-in-Err-clause-text : goal.returns-in-Err-clause-text
returns-in-Err-clause-text c = if_ok c.refused.result c.refused.ensures.text c.refused.ensures.memory (λ _ told kept.
    let text = string_bytes c.refused.new.reply in
    let v = c.prepare_step.new.self.world in
    subst (λ w. RepliesToStep w c.args.goal c.args.choice text v) c.in_ok-settle.ensures.world
    (step_refused c.settle.new.core.world v c.args.goal c.args.choice c.in-Err.fault text c.in-Err.ensures.stays.world c.in-Err.ensures.answer.1 told kept))
