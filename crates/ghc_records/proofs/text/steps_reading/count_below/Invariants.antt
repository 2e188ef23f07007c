use Rattle.std.proofs.Common.{◌<◌, take, IfSome}
use Rattle.ghc_term.specs.Lists.{In}
use Rattle.ghc_records.specs.Journal.{Step}
use Rattle.ghc_records.proofs.text.steps_reading.count_below.Given as goal

abbrev pub invariant-loop-index : goal.invariant-loop-index
invariant-loop-index l = (s : Step) → In s (take l.index l.steps) → IfSome l.bound (λ next. s.number < next)
