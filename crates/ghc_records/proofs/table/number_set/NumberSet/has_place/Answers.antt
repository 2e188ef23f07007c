use Rattle.ghc_records.proofs.Words.{◌<◌, ℕ, List, subst, Table}
use Rattle.ghc_records.proofs.table.number_set.NumberSet.has_place.Goals as goal

pub returns : goal.returns
returns c said = subst (λ (t : Table (List ℕ)). 0 < t.room) c.self.view_is (c.has_place.ensures said)
