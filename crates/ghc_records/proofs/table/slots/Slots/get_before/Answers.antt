use Rattle.ghc_records.proofs.Words.{arith}
use Rattle.ghc_records.proofs.SlotClosing.{none_in}
use Rattle.ghc_records.proofs.SlotFronts.{front_held, front_found, front_beyond}
use Rattle.ghc_records.proofs.table.slots.Slots.get_before.Goals as goal

pub returns-then-place-before-clause-found : goal.returns-then-place-before-clause-found
returns-then-place-before-clause-found c =
    (front_found c.args.self.now.held c.in-Some.place c.args.before c.args.number c.at.result c.len-count.ensures.distinct ((c.place_of.ensures c.in-Some.place).0 c.in-Some.is) (omega (arith, c.if-place-before.true)) c.at.ensures).0

pub returns-then-place-before-clause-none : goal.returns-then-place-before-clause-none
returns-then-place-before-clause-none c =
    (front_found c.args.self.now.held c.in-Some.place c.args.before c.args.number c.at.result c.len-count.ensures.distinct ((c.place_of.ensures c.in-Some.place).0 c.in-Some.is) (omega (arith, c.if-place-before.true)) c.at.ensures).1

pub returns-else-place-before-clause-none : goal.returns-else-place-before-clause-none
returns-else-place-before-clause-none c =
    front_beyond c.args.self.now.held c.in-Some.place c.args.before c.args.number c.len-count.ensures.distinct ((c.place_of.ensures c.in-Some.place).0 c.in-Some.is) c.if-place-before.false

pub returns-in-None-clause-none : goal.returns-in-None-clause-none
returns-in-None-clause-none c r i =
    none_in c.args.self.now.held c.args.number c.place_of.result c.in-None.is c.place_of.ensures r (front_held c.args.self.now.held c.args.before r i)
