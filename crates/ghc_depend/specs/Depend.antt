-- Dependence and consequences.
use Rattle.std.specs.Prelude.{◌≡◌, ◌⊎◌, ℕ, List, [], Some}
use Rattle.ghc_term.specs.declared.goal_name.GoalName.{GoalName}
use Rattle.ghc_term.specs.Lists.{In}
use Rattle.ghc_records.specs.Orders.{Precedes, Picks}
use Rattle.ghc_records.specs.Record.{Record}
pub use Rattle.ghc_records.specs.Uses.{MakesGoal, MakesVariable, Consumes, Binds, ReadsFrom, Names, NamesFrom, Uses, DependsOn}

-- Follows rs a b: b is a consequence of a, by a chain of direct dependence.
pub data Follows (rs : List Record) (a : Record) : Record → Type 0 where
  directly : {b : Record} → DependsOn rs b a → Follows rs a b
  further : {b c : Record} → Follows rs a b → DependsOn rs c b → Follows rs a c

-- The record numbered n is r, and is kept.
abbrev pub IsKeptAs : List Record → ℕ → Record → Type 0
IsKeptAs rs n r = In r rs × (r.number ≡ n)

-- No kept record has the number n.
abbrev pub IsNotKept : List Record → ℕ → Type 0
IsNotKept rs n = (r : Record) → In r rs → ¬ (r.number ≡ n)

-- The consequences of r, in recorded order.
abbrev pub AreConsequences : List Record → Record → List Record → Type 0
AreConsequences rs r found = Picks (Follows rs r) rs found

-- What follows from step n: nothing where it is not kept, and else its consequences, in recorded order.
abbrev pub AreConsequencesOf : List Record → ℕ → List Record → Type 0
AreConsequencesOf rs n found = (IsNotKept rs n × (found ≡ [])) ⊎ ((r : Record) × IsKeptAs rs n r × AreConsequences rs r found)

-- s is r itself, or a consequence of it.
abbrev pub GoesWith : List Record → Record → Record → Type 0
GoesWith rs r s = (s ≡ r) ⊎ Follows rs r s

-- b is the first consequence of r in recorded order.
abbrev pub IsFirstConsequence : List Record → Record → Record → Type 0
IsFirstConsequence rs r b = Follows rs r b × ((c : Record) → Follows rs r c → (c ≡ b) ⊎ Precedes rs b c)

-- Descends rs root g: the goal g is the goal root, or was made by a step whose goal descends from root.
pub data Descends (rs : List Record) (root : GoalName) : GoalName → Type 0 where
  itself : Descends rs root root
  made_by : {g h : GoalName} (r : Record) → In r rs → MakesGoal r g → r.goal ≡ Some h → Descends rs root h → Descends rs root g
