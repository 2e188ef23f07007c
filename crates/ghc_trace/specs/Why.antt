-- Why a step was possible, as `why` tells it.
use Rattle.std.specs.Prelude.{◌≡◌, ℕ, List, map}
use Rattle.ghc_records.specs.Record.{Record}
use Rattle.ghc_depend.specs.declared.cause.Cause.{Cause}
use Rattle.ghc_depend.specs.Cause.{AreReasonsOf}
use Rattle.ghc_trace.specs.declared.reasons.Reason.{Reason}

-- a step on which another depends, by its number, with the cause
abbrev pub reason_of : Record × Cause → Reason
reason_of p = record { step = p.0.number; cause = p.1 }

-- Told are the steps on which the kept step n depends directly, in recorded order, each with its cause.
abbrev pub AreReasonsTold : List Record → ℕ → List Reason → Type 0
AreReasonsTold kept n told = (reasons : List (Record × Cause)) × AreReasonsOf kept n reasons × (told ≡ map reason_of reasons)
