-- The change for which a command asks in a world.
use Rattle.ghc_core.specs.World.{World}
use Rattle.ghc_core.specs.declared.changes.Change.{Change}
use Rattle.ghc_core.specs.Change.{CanChange}
use Rattle.ghc_core.specs.Events.{Command}
use Rattle.ghc_core.specs.Answers.{Asks}

-- IsAskedFor w c change: the command c asks for the change, and in the world w it can be made.
abbrev pub IsAskedFor : World → Command → Change → Type 0
IsAskedFor w c change = Asks c change × CanChange w change
