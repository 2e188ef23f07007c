use Rattle.ghc_records.proofs.Words.{sym, subst, in_contains, In, IsInRange}
use Rattle.ghc_records.proofs.text.history_range.history_is_in_range.Goals as goal

pub returns : goal.returns
returns c s i =
    let steps = c.steps.result.now in
    let (k, low, is) = in_contains steps s (subst (In s) (sym c.steps.ensures.steps) i) in
    subst IsInRange is (c.steps_are_in_range.ensures k s low)
