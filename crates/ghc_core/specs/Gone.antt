-- What it takes to take steps away.
use Rattle.std.specs.Prelude.{List, ◌∷◌}
use Rattle.ghc_records.specs.Record.{Record}

-- A step, and the others that go with it, in recorded order.
pub record Gone : Type 0 where
  pub first : Record
  pub others : List Record

-- all of them
abbrev pub all_gone : Gone → List Record
all_gone gone = gone.first ∷ gone.others
