-- The status that a verdict stands for.
use Rattle.std.specs.Prelude.{Bool, false, IsTrue}
use Rattle.std.specs.FinSet as set
use Rattle.ghc_term.specs.declared.var_name.VarName.{VarName}
use Rattle.ghc_hooks.specs.declared.note.Verdict.{Verdict}
use Rattle.ghc_hooks.specs.declared.note.Verdict.TheVariants.{Ready, Waiting, Failed}
use Rattle.ghc_hooks.specs.Status.{Status, ready, waiting, failed, streaming}
use Rattle.ghc_hooks.specs.Notes.{Note}

-- the status that a verdict gives its goal: ready, waiting for variables, or failed for a cause
abbrev pub status_of : Verdict → Status
status_of Ready = ready
status_of (Waiting xs) = waiting xs
status_of (Failed f) = failed f

-- whether x is one of the variables for which a goal of this status waits
abbrev pub awaits : Status → VarName → Bool
awaits ready x = false
awaits (waiting xs) x = set.contains xs x
awaits (failed f) x = false
awaits streaming x = false

-- A goal waits only for what it looks at.
abbrev pub AwaitsWhatItLooksAt : Note → Type 0
AwaitsWhatItLooksAt note = (x : VarName) → IsTrue (awaits note.status x) → IsTrue (set.contains note.looked x)
