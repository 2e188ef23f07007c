-- Room in the tables of a core.
use Rattle.std.specs.Prelude.{ℕ}
use Rattle.ghc_records.specs.State.{StateRoom}

-- How much more the tables of a core take without memory.
pub record Room : Type 0 where
  pub state : StateRoom
  pub kept : ℕ
  pub shelf : ℕ
  pub journal : ℕ
  pub tries : ℕ
