-- Events and replies as the code has them.
use Rattle.ghc_hooks.specs.Verdict.{status_of}
use Rattle.ghc_core.specs.Events as events
use Rattle.ghc_core.specs.CommandCode.{command_of}
use Rattle.ghc_core.specs.declared.event.Event.{Event}
use Rattle.ghc_core.specs.declared.event.Event.TheVariants.{Propose, Commit, Note, Command}
use Rattle.ghc_core.specs.declared.reply.Reply.{Reply}
use Rattle.ghc_core.specs.declared.reply.Reply.TheVariants.{Held, Stepped, Noted, Undone, Arranged, Refused}

-- the event that is met
abbrev pub event_of : Event → events.Event
event_of (Propose h g choice) = events.propose h g choice
event_of (Commit h) = events.commit h
event_of (Note g) = events.note g
event_of (Command c) = events.command (command_of c)

-- the reply that is given
abbrev pub reply_of : Reply → events.Reply
reply_of (Held h) = events.held h
reply_of (Stepped n) = events.stepped n
reply_of (Noted g verdict) = events.noted g (status_of verdict)
reply_of (Undone ns) = events.undone ns.items
reply_of Arranged = events.arranged
reply_of (Refused f) = events.refused f
