-- Commands as the code has them.
use Rattle.ghc_core.specs.Events as events
use Rattle.ghc_core.specs.declared.command.Command.{Command}
use Rattle.ghc_core.specs.declared.command.Command.TheVariants.{Input, Close, Undo, Roll, Redo, Arrange, Ask}

-- the command that is given
abbrev pub command_of : Command → events.Command
command_of (Input k t) = events.input k t
command_of (Close k) = events.finish k
command_of (Undo n) = events.undo n
command_of (Roll n) = events.roll n
command_of (Redo n) = events.redo n
command_of (Arrange order) = events.arrange order
command_of (Ask goals) = events.ask goals
