use Rattle.std.proofs.Common.{sym}
use Rattle.ghc_records.proofs.RisingNumbers.{above_last}
use Rattle.ghc_records.proofs.table.rising.is_above.Goals as goal

pub returns-in-Some : goal.returns-in-Some
returns-in-Some c = above_last c.args.list.now c.in-Some.last.now c.args.number c.requires (sym c.in-Some.ensures.value)
