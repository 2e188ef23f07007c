use Rattle.ghc_records.proofs.SlotClosing.{found_at, none_in}
use Rattle.ghc_records.proofs.table.slots.Slots.find.Goals as goal

pub returns-in-Some : goal.returns-in-Some
returns-in-Some c =
    let (some, none) = found_at c.args.self.now.held c.in-Some.place c.args.number c.at.result ((c.place_of.ensures c.in-Some.place).0 c.in-Some.is) c.at.ensures in
    record { found = some; none = none }

pub returns-in-None-clause-none : goal.returns-in-None-clause-none
returns-in-None-clause-none c = none_in c.args.self.now.held c.args.number c.place_of.result c.in-None.is c.place_of.ensures
