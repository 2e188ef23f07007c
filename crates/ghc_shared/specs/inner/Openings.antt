-- What contracts see of an opening.
use Rattle.std.specs.Prelude.{ℕ, []}
use Rattle.atomic_table.specs.Seated.{TableId}

-- a value that is to be shared: the name of its table and that of its ledger, how many passes there are to be, and the value
pub record Offer (C : Type 0) : Type 0 where
  pub table : TableId
  pub name : ℕ
  pub passes : ℕ
  pub value : C

-- the name of no table
abbrev pub no_table : TableId
no_table = record { words = 0; slots = 0; views_name = 0; atom = 0; block = 0; offset = 0; slot_names = [] }
