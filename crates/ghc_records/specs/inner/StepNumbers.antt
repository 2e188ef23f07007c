-- The numbers of the steps that a text tells, as they are gathered.
use Rattle.std.specs.Prelude.{ℕ, List, ◌<◌, map}
use Rattle.ghc_term.specs.Lists.{In}
use Rattle.ghc_records.specs.Orders.{AreDistinct}
use Rattle.ghc_records.specs.Journal.{Step}

-- Each of the others is below one of the numbers.
abbrev pub ArePassed : List ℕ → List ℕ → Type 0
ArePassed numbers others = (n : ℕ) → In n others → (m : ℕ) × In m numbers × (n < m)

-- No two of the steps have one number.
abbrev pub HaveOwnNumbers : List Step → Type 0
HaveOwnNumbers steps = AreDistinct (map (λ s. s.number) steps)
