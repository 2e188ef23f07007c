use Rattle.ghc_records.proofs.Words.{◌≡◌, ◌<◌, arith, sym, ap, ◌∙◌, subst, length, List, Some, None, option_copied, Record, StandsIn, IsIndexOf}
use Rattle.ghc_records.proofs.SlotFronts.{front_gap}
use Rattle.ghc_records.proofs.records.Records.index_next.Goals as goal

pub add-requires-clause-there : goal.add-requires-clause-there
add-requires-clause-there c = (c.at.ensures c.in-Some.step.now).0 (ap option_copied c.in-Some.is)

pub invariant_of-self : goal.invariant_of-self
invariant_of-self c =
    let inside = c.self.inside in
    let ss = inside.slots.held in
    let place = inside.indexed in
    let within : place < length ss = rw (← c.self.view_is) at c.requires in
    let none : (r : Record) → ¬ StandsIn ss place r = λ r stands. let clash : None ≡ Some r = sym (ap option_copied c.in_default.is) ∙ (c.at.ensures r).1 stands in cc in
    (omega (arith, within), subst (λ (l : List Record). IsIndexOf l inside.index.users inside.index.binders.held) (sym (front_gap ss place within none)) c.self.invariant.1, c.self.invariant.2)
