use Rattle.ghc_console.proofs.CitedWords.{◌≤◌, length, string_bytes, refl, sym, subst, ◌∙◌, false, IfOk, LineSays, line_limit, IsAnsweredBy, IsReply, too_long, no_memory, refusal, command_of, state_of, Fires, err_from_is_err_and}
use Rattle.ghc_term.specs.declared.fault.Fault.TheVariants as fault
use Rattle.ghc_console.proofs.SessionFirings.{fires_nothing}
use Rattle.ghc_console.proofs.StepReplies.{either}
use Rattle.ghc_console.proofs.answer.answer.Goals as goal

pub returns-in-Whole-clause-reply : goal.returns-in-Whole-clause-reply
returns-in-Whole-clause-reply c bytes says =
    let w = state_of c.args.debugger.now in
    let r = c.execute_line.result in
    let v = state_of c.execute_line.new.debugger in
    let text = string_bytes c.execute_line.new.reply in
    let whole = subst (λ l. LineSays l bytes) c.in-Whole.is says in
    let replied = subst (λ l. length l ≤ line_limit → IfOk r (IsAnsweredBy w l text v)) (c.as_slice.ensures.value ∙ whole.0) c.execute_line.ensures.ok whole.1 in
    either r replied c.execute_line.ensures.err (λ _ told. told) (λ same. subst (λ u. IsReply w bytes (refusal fault.Memory) u false) (sym same) no_memory)

pub returns-in_ok-refused-in-TooLong-clause-reply : goal.returns-in_ok-refused-in-TooLong-clause-reply
returns-in_ok-refused-in-TooLong-clause-reply c bytes says =
    subst (λ t. IsReply (state_of c.args.debugger.now) bytes t (state_of c.args.debugger.now) false) (sym c.in_ok-refused-in-TooLong.ensures.text)
    (too_long (subst (λ l. LineSays l bytes) c.in-TooLong.is says))

pub returns-in_err-refused-in-TooLong-clause-reply : goal.returns-in_err-refused-in-TooLong-clause-reply
returns-in_err-refused-in-TooLong-clause-reply c bytes says = rw (err_from_is_err_and c.from_residual.result c.from_residual.ensures.1).1 no_memory

pub returns-in-NoMemory-clause-reply : goal.returns-in-NoMemory-clause-reply
returns-in-NoMemory-clause-reply c bytes says = no_memory

pub returns-in-Whole-clause-fires : goal.returns-in-Whole-clause-fires
returns-in-Whole-clause-fires c bytes says =
    let whole = subst (λ l. LineSays l bytes) c.in-Whole.is says in
    subst (λ l. Fires (command_of l) c.args.debugger.now.core.meter.firings c.execute_line.new.debugger.core.meter.firings) (c.as_slice.ensures.value ∙ whole.0) c.execute_line.ensures.fires

pub returns-in_ok-refused-in-TooLong-clause-fires : goal.returns-in_ok-refused-in-TooLong-clause-fires
returns-in_ok-refused-in-TooLong-clause-fires c bytes says = fires_nothing _ _ _ refl

pub returns-in_err-refused-in-TooLong-clause-fires : goal.returns-in_err-refused-in-TooLong-clause-fires
returns-in_err-refused-in-TooLong-clause-fires c bytes says = fires_nothing _ _ _ refl

pub returns-in-NoMemory-clause-fires : goal.returns-in-NoMemory-clause-fires
returns-in-NoMemory-clause-fires c bytes says = fires_nothing _ _ _ refl
