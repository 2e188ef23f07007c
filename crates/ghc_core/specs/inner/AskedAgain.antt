-- Goals that a step can ask for, one by one.
use Rattle.std.specs.Prelude.{◌≤◌, List, length}
use Rattle.ghc_term.specs.declared.limit.Limit.TheVariants as limit
use Rattle.ghc_term.specs.Goal.{Goal, call, unify, assign, stream}
use Rattle.ghc_term.specs.Lists.{In}
use Rattle.ghc_reader.specs.Limits.{most}
use Rattle.ghc_flat.specs.Clause.{Program}
use Rattle.ghc_core.specs.AskedGoals.{HasClauseFor}

-- The goal is one that a step can ask for: no stream, and a call has a clause, and no more arguments than a goal may have.
abbrev pub CanBeAskedFor : Program → Goal → Type 0
CanBeAskedFor P (call f ts) = (length ts ≤ most limit.Arity) × HasClauseFor P f (length ts)
CanBeAskedFor P (unify l r) = Unit {0}
CanBeAskedFor P (assign x t) = Unit {0}
CanBeAskedFor P (stream k x) = ⊥

-- Each of the goals is.
abbrev pub CanBeAsked : Program → List Goal → Type 0
CanBeAsked P gs = (g : Goal) → In g gs → CanBeAskedFor P g
