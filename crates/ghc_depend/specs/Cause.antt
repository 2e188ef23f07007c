-- Why a step depends on an earlier one.
use Rattle.std.specs.Prelude.{◌≡◌, ◌⊎◌, ◌↔◌, ℕ, List, map, Option, Some, None, IsTrue, Bool}
use Rattle.std.specs.FinSet as set
use Rattle.std.specs.declared.cmp.Ordering.TheVariants.{Less}
use Rattle.ghc_term.specs.declared.var_name.VarName.{VarName}
use Rattle.ghc_term.specs.Lists.{In}
use Rattle.ghc_term.specs.Bindings.{name_cmp}
use Rattle.ghc_fire.specs.declared.act.Act.{Act}
use Rattle.ghc_fire.specs.declared.act.Act.TheVariants.{ByClause as by_clause, Unified as unified, Assigned as assigned, Given as given, Closed as closed, Asked as asked}
use Rattle.ghc_records.specs.Orders.{Precedes, Picks}
use Rattle.ghc_records.specs.Record.{Record}
use Rattle.ghc_depend.specs.declared.cause.Cause.{Cause}
use Rattle.ghc_depend.specs.declared.cause.Cause.TheVariants.{Made as made, Read as read, Named as named}
use Rattle.ghc_depend.specs.Depend.{Consumes, Binds, ReadsFrom, NamesFrom, DependsOn, IsKeptAs}

-- The act reduces a call or assigns, so that its goal can have waited.
abbrev pub CanWait : Act → Type 0
CanWait (by_clause _) = Unit {0}
CanWait unified = ⊥
CanWait assigned = Unit {0}
CanWait (given _) = ⊥
CanWait closed = ⊥
CanWait (asked _) = ⊥

-- The goal that b consumed was made before a in recorded order; a goal of the query was made before every step.
abbrev pub WasThereBefore : List Record → Record → Record → Type 0
WasThereBefore rs b a = (m : Record) → In m rs → Consumes b m → Precedes rs m a

-- A step after a bound the variable x.
abbrev pub IsBoundBehind : List Record → Record → VarName → Type 0
IsBoundBehind rs a x = (c : Record) × Precedes rs a c × Binds c x

-- The step b read a variable that a step after a bound.
abbrev pub ReadsBehind : List Record → Record → Record → Type 0
ReadsBehind rs b a = (x : VarName) × IsTrue (set.contains b.effect.reads x) × IsBoundBehind rs a x

-- The step a woke the goal of b: that goal can have waited and was there before a, and no step after a bound a variable that b read.
abbrev pub IsWokenBy : List Record → Record → Record → Type 0
IsWokenBy rs b a = CanWait b.act × WasThereBefore rs b a × (¬ ReadsBehind rs b a)

-- x is the least variable that b read and a bound.
abbrev pub IsLeastRead : Record → Record → VarName → Type 0
IsLeastRead b a x = ReadsFrom b a x × ((y : VarName) → ReadsFrom b a y → (y ≡ x) ⊎ (name_cmp x y ≡ Less))

-- x is the least variable that b names and a made.
abbrev pub IsLeastNamed : Record → Record → VarName → Type 0
IsLeastNamed b a x = NamesFrom b a x × ((y : VarName) → NamesFrom b a y → (y ≡ x) ⊎ (name_cmp x y ≡ Less))

-- HasCause rs b a cause: b depends directly on the earlier a for this cause: that a made the goal that b consumed; else the least variable that b read and a bound; else the least that b names and a made. (A step that names variables consumes and reads nothing.)
pub data HasCause (rs : List Record) (b a : Record) : Cause → Type 0 where
  by_making : Precedes rs a b → Consumes b a → HasCause rs b a made
  by_reading : {x : VarName} {woke : Bool} → Precedes rs a b → ¬ Consumes b a → IsLeastRead b a x → IsTrue woke ↔ IsWokenBy rs b a → HasCause rs b a (read x woke)
  by_naming : {x : VarName} → Precedes rs a b → ¬ Consumes b a → ((y : VarName) → ¬ ReadsFrom b a y) → IsLeastNamed b a x → HasCause rs b a (named x)

-- The direct dependence of the step numbered later on the step numbered earlier, if there is one.
abbrev pub IsDirect : List Record → ℕ → ℕ → Option Cause → Type 0
IsDirect rs later earlier (Some cause) = (b a : Record) × IsKeptAs rs later b × IsKeptAs rs earlier a × HasCause rs b a cause
IsDirect rs later earlier None = (b a : Record) → IsKeptAs rs later b → IsKeptAs rs earlier a → ¬ DependsOn rs b a

-- The steps on which b depends directly, in recorded order, each with its cause.
abbrev pub AreReasons : List Record → Record → List (Record × Cause) → Type 0
AreReasons rs b reasons = Picks (DependsOn rs b) rs (map (λ p. p.0) reasons) × ((p : Record × Cause) → In p reasons → HasCause rs b p.0 p.1)

-- Why step n was possible: the reasons of the kept step n.
abbrev pub AreReasonsOf : List Record → ℕ → List (Record × Cause) → Type 0
AreReasonsOf rs n reasons = (b : Record) × IsKeptAs rs n b × AreReasons rs b reasons
