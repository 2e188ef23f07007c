use Rattle.ghc_records.proofs.SlotClosing.{found_at}
use Rattle.ghc_records.proofs.table.slots.Slots.get.Goals as goal

pub returns-in-Some : goal.returns-in-Some
returns-in-Some c =
    let (some, none) = found_at c.args.self.now.held c.in-Some.place c.args.number c.at.result ((c.likely_place_of.ensures c.in-Some.place).0 c.in-Some.is).0 c.at.ensures in
    record { found = some; none = none }
