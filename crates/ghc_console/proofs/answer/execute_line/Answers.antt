use Rattle.ghc_console.proofs.CitedWords.{refl, string_bytes, subst, IsCommandAnsweredBy, command_of, state_of}
use Rattle.ghc_console.proofs.RunCommands.{line_answered}
use Rattle.ghc_console.proofs.SessionFirings.{fires_nothing}
use Rattle.ghc_console.proofs.StepReplies.{if_ok}
use Rattle.ghc_console.proofs.answer.execute_line.Goals as goal

pub returns-clause-ok : goal.returns-clause-ok
returns-clause-ok c short =
    let s = state_of c.args.debugger.now in
    let t = state_of c.execute.new.debugger in
    let text = string_bytes c.execute.new.reply in
    let answered = rw c.index_for.ensures at c.execute.ensures.answered in
    if_ok c.execute.result answered answered (λ a h _. line_answered s t c.args.line.now text a short (subst (λ k. IsCommandAnsweredBy s k text t a) c.in_ok-command.ensures.command h))

pub returns-in_err-command-clause-fires : goal.returns-in_err-command-clause-fires
returns-in_err-command-clause-fires c = fires_nothing (command_of c.args.line.now) c.args.debugger.now.core.meter.firings c.args.debugger.now.core.meter.firings refl
