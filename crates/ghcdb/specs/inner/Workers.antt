-- How many workers make a run of the session.
use Rattle.std.specs.Prelude.{◌≡◌, ℕ, List, Result, Ok, Err, max, min}
use Rattle.std.specs.NonZero.{non_zero_usize_get}
use Rattle.std.specs.declared.num.NonZeroUsize.{NonZeroUsize}
use Rattle.ghc_flat.specs.Clause.{Program}
use Rattle.ghc_core.specs.Excerpt.{HasManyClauses}
use Rattle.ghcdb.specs.declared.settings.WorkersOption.{WorkersOption}
use Rattle.ghcdb.specs.declared.settings.WorkersOption.TheVariants.{Number, Auto}

-- A predicate of the program has many clauses.
pub record HasLargePredicate (P : Program) : Type 0 where
  pub name : List ℕ
  pub arity : ℕ
  pub clauses : HasManyClauses P name arity

-- a worker for each processor, but one at least and 64 at most
abbrev pub one_each : ℕ → ℕ
one_each processors = max 1 (min processors 64)

-- It is one worker, or one for each processor where a predicate of the program has many clauses.
pub record AreAutomatic (P : Program) (processors workers : ℕ) : Type 0 where
  pub few : ¬ HasLargePredicate P → workers ≡ 1
  pub many : HasLargePredicate P → workers ≡ one_each processors

-- AreWorkersOf asked P processors n: n workers make a run of the program on a machine of so many processors. They are the number that is asked for, or depend on the program.
abbrev pub AreWorkersOf : WorkersOption → Program → ℕ → ℕ → Type 0
AreWorkersOf (Number n) P processors workers = workers ≡ n
AreWorkersOf Auto P processors workers = AreAutomatic P processors workers

-- so many processors, or one where none are told
abbrev pub processors_in : {E : Type 0} → Result NonZeroUsize E → ℕ
processors_in (Ok count) = non_zero_usize_get count
processors_in (Err error) = 1

-- AreProcessorsFor Says asked n: where the workers are left to the program, n is the number of processors that the machine says, of what it can say; else it is one.
abbrev pub AreProcessorsFor : {E : Type 0} → (Result NonZeroUsize E → Type 0) → WorkersOption → ℕ → Type 0
AreProcessorsFor Says (Number n) processors = processors ≡ 1
AreProcessorsFor {E} Says Auto processors = (told : Result NonZeroUsize E) × Says told × (processors ≡ processors_in told)
