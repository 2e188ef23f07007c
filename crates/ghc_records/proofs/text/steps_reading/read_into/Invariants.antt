use Rattle.ghc_records.specs.HistoryText.{pieces_of}
use Rattle.ghc_records.proofs.TellingSteps.{HasTold}
use Rattle.ghc_records.proofs.text.steps_reading.read_into.Given as goal

abbrev pub invariant-loop-index : goal.invariant-loop-index
invariant-loop-index l = HasTold (pieces_of l.text) l._index l.rest l.numbers l.steps.items
