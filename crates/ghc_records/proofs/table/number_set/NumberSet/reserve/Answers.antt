use Rattle.ghc_records.proofs.Words.{sym, ap, ◌∙◌, subst, HoldsEachOnce, AreDistinct}
use Rattle.ghc_records.proofs.RisingNumbers.{rising_distinct}
use Rattle.ghc_records.proofs.table.number_set.NumberSet.reserve.Goals as goal

pub tabled-requires : goal.tabled-requires
tabled-requires c =
    let here = c.deref-in-Listed-2.ensures.value ∙ ap (λ v. v.items) c.deref-in-Listed.ensures in
    subst AreDistinct (sym here) (rising_distinct c.in-Listed.list.value.items (subst HoldsEachOnce c.in-Listed.is c.self.invariant).0)
