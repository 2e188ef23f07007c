use Rattle.ghc_console.proofs.CitedWords.{refl, starves}
use Rattle.ghc_console.proofs.schedules.reply.reply_as_console.Goals as goal

pub returns-in-Err : goal.returns-in-Err
returns-in-Err c = starves c.in-Err.ensures.memory (refl, refl)
