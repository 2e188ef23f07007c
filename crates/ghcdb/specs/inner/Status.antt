-- How the program ends.
use Rattle.std.specs.Prelude.{ℕ, Bool, true, false}
use Rattle.ghc_term.specs.declared.fault.Fault.{Fault}
use Rattle.ghc_term.specs.declared.fault.Fault.TheVariants.{Device, Memory}
use Rattle.ghcdb.specs.declared.status.Status.{Status}
use Rattle.ghcdb.specs.declared.status.Status.TheVariants.{Done, Refused, Misused, Broken}

-- a refusal of the device ends with a status of its own
abbrev pub status_of : Fault → Status
status_of Device = Broken
status_of _ = Refused

-- the refusal in place of this one where no memory is left to write it, with the same status
abbrev pub spare_fault : Fault → Fault
spare_fault Device = Device
spare_fault _ = Memory

-- the status where what was asked for was printed, or could not be
abbrev pub status_of_print : Bool → Status
status_of_print true = Done
status_of_print false = Broken

-- the number that the process ends with
abbrev pub status_code : Status → ℕ
status_code Done = 0
status_code Refused = 1
status_code Misused = 2
status_code Broken = 3
