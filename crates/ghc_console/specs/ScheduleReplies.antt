-- The replies to the lines of a schedule.
use Rattle.std.specs.Prelude.{◌≡◌, ℕ, List, [], ◌++◌, Option, None, Some, codes}
use Rattle.std.specs.Fmt.{decimal}
use Rattle.ghc_term.specs.declared.fault.Fault.{Fault}
use Rattle.ghc_term.specs.declared.limit.Limit.TheVariants as limit
use Rattle.ghc_term.specs.Tree.{Tree}
use Rattle.ghc_term.specs.Goal.{Goal}
use Rattle.ghc_reader.specs.Tests.{a_term, an_ask, IsRefusal}
use Rattle.ghc_reader.specs.Read.{IsReadTerm}
use Rattle.ghc_records.specs.StepText.{goal_name_text}
use Rattle.ghc_core.specs.Events.{Event, command, input as give, ask as ask_for, Reply, held, stepped, noted, undone, arranged, refused}
use Rattle.ghc_core.specs.EventCode.{event_of}
use Rattle.ghc_core.specs.CommandCode.{command_of as core_command_of}
use Rattle.ghc_core.specs.Meets.{Meets}
use Rattle.ghc_core.specs.declared.world.World.{World as Played}
use Rattle.ghc_console.specs.AskedFor.{IsReadAskFor}
use Rattle.ghc_console.specs.Commands.{command_of}
use Rattle.ghc_console.specs.LineMemory.{TakesMemory}
use Rattle.ghc_console.specs.Reading.{LineSays}
use Rattle.ghc_console.specs.TextLines.{lined, refusal}
use Rattle.ghc_console.specs.Replies.{undone_text}
use Rattle.ghc_console.specs.ScheduleLines.{schedule_line_of}
use Rattle.ghc_console.specs.declared.command.LineCommand.{LineCommand}
use Rattle.ghc_console.specs.declared.command.LineCommand.TheVariants.{Nothing as nothing, Obey as obey, Input as input, Ask as ask}
use Rattle.ghc_console.specs.declared.devices.reading.Line.{Line}
use Rattle.ghc_console.specs.declared.devices.reading.Line.TheVariants as read
use Rattle.ghc_console.specs.declared.schedules.line.ScheduleLine.{ScheduleLine}
use Rattle.ghc_console.specs.declared.schedules.line.ScheduleLine.TheVariants as line

-- the line that tells a reply: `held W`, `step N`, `noted G`, `undone N,N`, `arranged`, or why the event is refused
abbrev pub reply_text : Reply → List ℕ
reply_text (held h) = lined (codes "held " ++ decimal h)
reply_text (stepped n) = lined (codes "step " ++ decimal n)
reply_text (noted g s) = lined (codes "noted " ++ goal_name_text g)
reply_text (undone ns) = undone_text ns
reply_text arranged = lined (codes "arranged")
reply_text (refused f) = refusal f

-- what is written for a line: the line of its reply, or nothing where it gets none
abbrev pub told_text : Option Reply → List ℕ
told_text None = []
told_text (Some reply) = reply_text reply

-- The line gets this refusal for a reply, and nothing changes.
abbrev pub IsTurnedDown : Fault → Played → Option Reply → Played → Type 0
IsTurnedDown f old reply new = (reply ≡ Some (refused f)) × (new ≡ old)

-- The event is met by a core with hands, and the line gets the reply of the event.
abbrev pub IsPlayed : Event → Played → Option Reply → Played → Type 0
IsPlayed e old reply new = (told : Reply) × (reply ≡ Some told) × Meets old e told new

-- IsGiven k given old reply new: a test of the reader refuses what is given, whatever stream k is, or memory was refused to read it. Or it is read as a term, which the stream gets.
pub data IsGiven (k : ℕ) (given : List ℕ) (old : Played) (reply : Option Reply) (new : Played) : Type 0 where
  unread : (f : Fault) → IsRefusal a_term given f → IsTurnedDown f old reply new → IsGiven k given old reply new
  no_memory : IsTurnedDown Fault.Memory old reply new → IsGiven k given old reply new
  reads : (u : Tree) → IsReadTerm given u → IsPlayed (command (give k u)) old reply new → IsGiven k given old reply new

-- IsAskedOf given old reply new: a test of the reader refuses what is given, or memory was refused to read it. Or it is read as goals, for which the event asks the core.
pub data IsAskedOf (given : List ℕ) (old : Played) (reply : Option Reply) (new : Played) : Type 0 where
  unasked : (f : Fault) → IsRefusal an_ask given f → IsTurnedDown f old reply new → IsAskedOf given old reply new
  no_memory : IsTurnedDown Fault.Memory old reply new → IsAskedOf given old reply new
  asks : (gs : List Goal) → IsReadAskFor old.core.world given gs → IsPlayed (command (ask_for gs)) old reply new → IsAskedOf given old reply new

-- What a command of the console does in a schedule: those that the core obeys are events; the others are not known.
abbrev pub PlaysCommand : LineCommand → Played → Option Reply → Played → Type 0
PlaysCommand nothing old reply new = (reply ≡ None) × (new ≡ old)
PlaysCommand (obey c) old reply new = IsPlayed (command (core_command_of c)) old reply new
PlaysCommand (input k given) old reply new = IsGiven k given old reply new
PlaysCommand (ask given) old reply new = IsAskedOf given old reply new
PlaysCommand c old reply new = IsTurnedDown Fault.Command old reply new

-- What a line does that says what it says at the console: what its command does; or, where reading it takes memory, that was refused, which changes nothing.
pub data IsDoneAsConsole (bytes : List ℕ) (old : Played) (reply : Option Reply) (new : Played) : Type 0 where
  plays : PlaysCommand (command_of bytes) old reply new → IsDoneAsConsole bytes old reply new
  starves : TakesMemory bytes → IsTurnedDown Fault.Memory old reply new → IsDoneAsConsole bytes old reply new

-- What a line that says this does.
abbrev pub IsDoneBy : List ℕ → ScheduleLine → Played → Option Reply → Played → Type 0
IsDoneBy bytes line.Nothing old reply new = (reply ≡ None) × (new ≡ old)
IsDoneBy bytes (line.Event e) old reply new = IsPlayed (event_of e) old reply new
IsDoneBy bytes line.AsConsole old reply new = IsDoneAsConsole bytes old reply new
IsDoneBy bytes line.Unknown old reply new = IsTurnedDown Fault.Command old reply new

-- HearsLine line old reply new: a core with hands replies so to a line that was read, or not at all where it has no words; old and new are core and hands before and after. A line past the limit is refused, and so is one for which memory was refused.
abbrev pub HearsLine : Line → Played → Option Reply → Played → Type 0
HearsLine (read.Whole v) old reply new = IsDoneBy v.items (schedule_line_of v.items) old reply new
HearsLine read.TooLong old reply new = IsTurnedDown (Fault.Limit limit.Line) old reply new
HearsLine read.NoMemory old reply new = IsTurnedDown Fault.Memory old reply new

-- Hears bytes old reply new: the same of a line of these bytes, as it was read.
pub record Hears (bytes : List ℕ) (old : Played) (reply : Option Reply) (new : Played) : Type 0 where
  pub line : Line
  pub says : LineSays line bytes
  pub heard : HearsLine line old reply new
