use Rattle.ghc_console.proofs.CitedWords.{◌∙◌, ap, sym, subst, Some, reply_of, Input as input, Ask as ask, PlaysCommand}
use Rattle.ghc_console.proofs.schedules.reply.play_command.Goals as goal

pub returns-in-Input : goal.returns-in-Input
returns-in-Input c =
    subst (λ k. PlaysCommand k c.args.world.now (Some (reply_of c.give.result)) c.give.new.world) (ap (input c.in-Input.stream) c.as_slice.ensures ∙ sym c.in-Input.is) c.give.ensures

pub returns-in-Ask : goal.returns-in-Ask
returns-in-Ask c =
    subst (λ k. PlaysCommand k c.args.world.now (Some (reply_of c.ask.result)) c.ask.new.world) (ap ask c.as_slice-in-Ask.ensures ∙ sym c.in-Ask.is) c.ask.ensures
