-- How a session ends, or a schedule that is played in its place.
use Rattle.std.specs.Prelude.{◌≡◌, ◌⊎◌, Result, Ok, Err}
use Rattle.ghc_term.specs.declared.fault.Fault.{Fault}
use Rattle.ghc_term.specs.declared.fault.Fault.TheVariants.{Device, Memory}
use Rattle.ghcdb.specs.declared.refusal.Refusal.{Refusal}
use Rattle.ghcdb.specs.declared.refused_part.RefusedPart.{RefusedPart}
use Rattle.ghcdb.specs.declared.refused_part.RefusedPart.TheVariants as part
use Rattle.ghcdb.specs.declared.run_or_play.Task.{Task}
use Rattle.ghcdb.specs.declared.run_or_play.Task.TheVariants as task

-- what ends, for this part: well, or with the fault
abbrev pub ended_as : RefusedPart → Result Unit Fault → Result Unit Refusal
ended_as part (Ok done) = Ok done
ended_as part (Err fault) = Err (record { part = part; fault = fault })

-- what a refusal names where the task does not end well
abbrev pub part_at_end : Task → RefusedPart
part_at_end task.Session = part.Session
part_at_end task.Schedule = part.Schedule

-- A session that was begun does not end well where the device fails, and a schedule also where no memory is left.
abbrev pub BreaksOff : Task → Fault → Type 0
BreaksOff task.Session f = f ≡ Device
BreaksOff task.Schedule f = (f ≡ Memory) ⊎ (f ≡ Device)

-- The refusal is that of the task, which did not end well.
pub record IsEndRefusal (task : Task) (refusal : Refusal) : Type 0 where
  pub part_is : refusal.part ≡ part_at_end task
  pub fault : BreaksOff task refusal.fault
