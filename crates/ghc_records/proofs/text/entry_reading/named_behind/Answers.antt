use Rattle.ghc_records.proofs.EntryLines.{no_number}
use Rattle.ghc_records.proofs.text.entry_reading.named_behind.Goals as goal

pub returns-in-Some-clause-none : goal.returns-in-Some-clause-none
returns-in-Some-clause-none c = no_number c.args.line.now c.args.front.now c.in-Some.word.now c.positive.result c.in-Some.ensures.some c.positive.ensures.none
