use Rattle.ghc_console.proofs.CitedWords.{refl, reply_of}
use Rattle.ghc_console.specs.ScheduleReplies.{reads}
use Rattle.ghc_console.proofs.ScheduleSaid.{given_refused}
use Rattle.ghc_console.proofs.schedules.reply.give.Goals as goal

pub returns-in-Ok : goal.returns-in-Ok
returns-in-Ok c = reads c.in-Ok.input c.in-Ok.ensures.answer.0 (reply_of c.answer.result, refl, c.answer.ensures.met)

pub returns-in-Err : goal.returns-in-Err
returns-in-Err c = given_refused c.args.world.now c.args.stream c.args.text.now c.in-Err.fault c.in-Err.ensures.answer.1
