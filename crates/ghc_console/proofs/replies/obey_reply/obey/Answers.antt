use Rattle.ghc_console.proofs.CitedWords.{sym, subst, refl, ◌∙◌, string_bytes, World, CanChange, IsObeyed, TellsChange, obeys}
use Rattle.ghc_core.specs.CommandCode.{command_of}
use Rattle.ghc_console.proofs.ObeyReplies.{command_refused, fires_as_counted, opening_left}
use Rattle.ghc_console.proofs.SessionFirings.{obeys_nothing}
use Rattle.ghc_console.proofs.StepReplies.{if_ok, on_ok}
use Rattle.ghc_console.proofs.replies.obey_reply.obey.Goals as goal

pub tell_and_make-requires-clause-found : goal.tell_and_make-requires-clause-found
tell_and_make-requires-clause-found c = subst (λ (w : World). CanChange w c.in-Ok.change) (sym c.in-Ok.ensures.stays.world) c.in-Ok.ensures.answer.0.1

pub returns-in-Ok-clause-text : goal.returns-in-Ok-clause-text
returns-in-Ok-clause-text c = on_ok c.tell_and_make.result c.tell_and_make.ensures.told (λ told.
    let text = string_bytes c.tell_and_make.new.reply in
    let v = c.tell_and_make.new.core.world in
    let change = c.in-Ok.change in
    subst (λ w. IsObeyed w (command_of c.args.command.now) text v) c.in_ok-settle.ensures.world
    (obeys change c.in-Ok.ensures.answer.0 (subst (λ (w : World). TellsChange w change text v) c.in-Ok.ensures.stays.world told)))

pub returns-in-Ok-clause-opening : goal.returns-in-Ok-clause-opening
returns-in-Ok-clause-opening c =
    opening_left c.args.core.now.world c.prepare_command.new.self.world c.tell_and_make.new.core.world (command_of c.args.command.now) (string_bytes c.tell_and_make.new.reply) c.tell_and_make.result
    (returns-in-Ok-clause-text c) c.tell_and_make.ensures.err (c.in-Ok.ensures.stays.world ∙ c.in_ok-settle.ensures.world)

pub returns-in-Err-clause-text : goal.returns-in-Err-clause-text
returns-in-Err-clause-text c = if_ok c.refused.result c.refused.ensures.text c.refused.ensures.memory (λ _ told kept.
    let asked = command_of c.args.command.now in
    let text = string_bytes c.refused.new.reply in
    let v = c.prepare_command.new.self.world in
    subst (λ w. IsObeyed w asked text v) c.in_ok-settle.ensures.world
    (command_refused c.settle.new.core.world v asked c.in-Err.refusal text c.in-Err.ensures.stays.world c.in-Err.ensures.answer.1 told kept))

pub returns-in_err-settle-clause-firings : goal.returns-in_err-settle-clause-firings
returns-in_err-settle-clause-firings c = obeys_nothing (command_of c.args.command.now) c.args.core.now.meter.firings c.settle.new.core.meter.firings c.settle.ensures.firings

pub returns-in-Ok-clause-firings : goal.returns-in-Ok-clause-firings
returns-in-Ok-clause-firings c =
    fires_as_counted c.settle.new.core.world (command_of c.args.command.now) c.settle.new.core.meter c.prepare_command.new.self.meter c.args.core.now.meter.firings c.tell_and_make.new.core.meter.firings c.in_ok-settle.ensures.firings c.in-Ok.ensures.counted
    c.tell_and_make.ensures.firings

pub returns-in-Err-clause-firings : goal.returns-in-Err-clause-firings
returns-in-Err-clause-firings c =
    let counts = c.prepare_command.new.self.meter in
    fires_as_counted c.settle.new.core.world (command_of c.args.command.now) c.settle.new.core.meter counts c.args.core.now.meter.firings counts.firings c.in_ok-settle.ensures.firings c.in-Err.ensures.counted refl
