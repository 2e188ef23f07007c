-- What it takes to put the record into another order.
use Rattle.std.specs.Prelude.{ℕ, List}
use Rattle.ghc_records.specs.Record.{Record}

-- The records in the order, and the order.
pub record Arrangement : Type 0 where
  pub records : List Record
  pub order : List ℕ
