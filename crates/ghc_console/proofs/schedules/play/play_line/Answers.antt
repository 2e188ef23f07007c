use Rattle.ghc_console.proofs.CitedWords.{None, Some, Appends-nil, option_map, reply_of}
use Rattle.ghc_console.proofs.schedules.play.play_line.Goals as goal

pub returns-in-Some-clause-played : goal.returns-in-Some-clause-played
returns-in-Some-clause-played g c = record { reply = option_map reply_of (Some c.in-Some.reply); heard = c.in-Some.ensures; told = c.write_reply.ensures.written }

pub returns-in-None-clause-played : goal.returns-in-None-clause-played
returns-in-None-clause-played g c = record { reply = None; heard = c.in-None.ensures; told = Appends-nil _ }
