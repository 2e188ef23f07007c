use Rattle.ghc_records.proofs.Words.{All, take, IsInRange}
use Rattle.ghc_records.proofs.text.history_range.steps_are_in_range.Given as goal

abbrev pub invariant-loop-step : goal.invariant-loop-step
invariant-loop-step l = All IsInRange (take l.step-index l.steps)
