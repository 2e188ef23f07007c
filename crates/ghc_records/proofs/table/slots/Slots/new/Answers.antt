use Rattle.ghc_records.proofs.Words.{◌≡◌, length, sym, subst, refl, AreDistinct, numbers, held_in}
use Rattle.ghc_records.proofs.SlotStrays.{strays_none}
use Rattle.ghc_records.proofs.table.slots.Slots.new.Goals as goal

pub invariant_of-result : goal.invariant_of-result
invariant_of-result c = (
  subst (λ l. AreDistinct (numbers (held_in l))) (sym c.new.ensures.items) tt,
  subst (λ l. 0 ≡ length (held_in l)) (sym c.new.ensures.items) refl,
  strays_none c.new.result.items c.new-2.result.held c.new.ensures.items c.new-2.ensures,
)
