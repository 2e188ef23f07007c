-- What lines fire in the core as they are carried out.
use Rattle.std.specs.Prelude.{◌≡◌, ◌⊎◌, ℕ, List, sum_by}
use Rattle.ghc_fire.specs.Meter.{one_more}
use Rattle.ghc_core.specs.Events.{Command, redo}
use Rattle.ghc_core.specs.CommandCode.{command_of as core_command_of}
use Rattle.ghc_console.specs.Commands.{command_of}
use Rattle.ghc_console.specs.declared.command.LineCommand.{LineCommand}
use Rattle.ghc_console.specs.declared.command.LineCommand.TheVariants.{Step, Obey, Leap, Skip}

-- FiresInObeying c old new: obeying the command c of the core takes the count of firings from old to new. A redo fires once, or not at all where it is refused before; no other command fires.
abbrev pub FiresInObeying : Command → ℕ → ℕ → Type 0
FiresInObeying (redo n) old new = (new ≡ old) ⊎ (new ≡ one_more old)
FiresInObeying c old new = new ≡ old

-- Fires c old new: carrying out the command c takes the count of firings from old to new. A step or a redo fires once in the core, or not at all where it is refused before; of a run nothing is said; no other command fires.
abbrev pub Fires : LineCommand → ℕ → ℕ → Type 0
Fires (Step goal choice) old new = (new ≡ old) ⊎ (new ≡ one_more old)
Fires (Obey c) old new = FiresInObeying (core_command_of c) old new
Fires (Leap limit) old new = Unit {0}
Fires (Skip goal) old new = Unit {0}
Fires c old new = new ≡ old

-- how many firings a command of the core may ask for
abbrev pub firings_of_obeying : Command → ℕ
firings_of_obeying (redo n) = 1
firings_of_obeying c = 0

-- how many firings a command that is no run may ask for
abbrev pub firings_of : LineCommand → ℕ
firings_of (Step goal choice) = 1
firings_of (Obey c) = firings_of_obeying (core_command_of c)
firings_of c = 0

-- how many runs a command asks for
abbrev pub runs_of : LineCommand → ℕ
runs_of (Leap limit) = 1
runs_of (Skip goal) = 1
runs_of c = 0

-- how many runs the lines of an input ask for
abbrev pub runs_in : List (List ℕ) → ℕ
runs_in lines = sum_by (λ line. runs_of (command_of line)) lines

-- how many firings the lines of an input may ask for, where none is a run: one for each step and each redo
abbrev pub firings_in : List (List ℕ) → ℕ
firings_in lines = sum_by (λ line. firings_of (command_of line)) lines
