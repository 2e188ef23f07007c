use Rattle.ghc_console.proofs.CitedWords.{option_map, subst, reply_of, IsDoneBy}
use Rattle.ghc_console.proofs.schedules.reply.hear_whole.Goals as goal

pub returns-in-AsConsole : goal.returns-in-AsConsole
returns-in-AsConsole c =
    let line = c.args.line.now in
    let replied = c.reply_as_console in
    subst (λ said. IsDoneBy line said c.args.world.now (option_map reply_of replied.result) replied.new.world) c.in-AsConsole.ensures replied.ensures
