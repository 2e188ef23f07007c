use Rattle.ghc_console.proofs.CitedWords.{refl, subst, Core, reply_of, IsReadAskFor}
use Rattle.ghc_console.specs.ScheduleReplies.{asks}
use Rattle.ghc_console.proofs.ScheduleSaid.{ask_refused}
use Rattle.ghc_console.proofs.schedules.reply.ask.Goals as goal

pub returns-in-Ok : goal.returns-in-Ok
returns-in-Ok c =
    let read = subst (λ (k : Core). IsReadAskFor k.world c.args.text.now c.in-Ok.goals) c.core.ensures c.in-Ok.ensures.0 in
    asks c.in-Ok.goals read (reply_of c.answer.result, refl, c.answer.ensures.met)

pub returns-in-Err : goal.returns-in-Err
returns-in-Err c = ask_refused c.args.world.now c.args.text.now c.in-Err.fault c.in-Err.ensures.1
