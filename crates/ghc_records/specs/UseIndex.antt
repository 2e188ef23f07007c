-- The index of a record: which steps used what a step gave, and which step bound a variable.
use Rattle.std.specs.Prelude.{◌≡◌, ◌⊎◌, ◌↔◌, ◌<◌, ◌+◌, ℕ, List, [], ◌∷◌, ◌++◌, Option, Some, None, IsTrue}
use Rattle.std.specs.Ordering.{nat_cmp}
use Rattle.std.specs.FinMap as finite
use Rattle.std.specs.FinSet as set
use Rattle.ghc_term.specs.declared.var_name.VarName.{VarName}
use Rattle.ghc_term.specs.declared.goal_name.GoalName.{GoalName}
use Rattle.ghc_term.specs.Bindings.{name_cmp}
use Rattle.ghc_term.specs.Lists.{In}
use Rattle.ghc_term.specs.Sets.{Variables}
use Rattle.ghc_term.specs.Table.{Table}
use Rattle.ghc_records.specs.Record.{Record}
use Rattle.ghc_records.specs.inner.Slots.{SlotList}
use Rattle.ghc_records.specs.Uses.{Binds, Consumes, MakesVariable, DependsOn}

-- The numbers of steps by the number of the step that they used, each with the room for more.
abbrev pub UsersByStep : Type 0
UsersByStep = finite.FinMap nat_cmp (Table (List ℕ))

-- The numbers of the steps that bound variables, by variable.
abbrev pub BindersByVariable : Type 0
BindersByVariable = finite.FinMap name_cmp ℕ

-- Sets in the order of the steps, each with the number of its step, where the first step has the number n.
abbrev pub numbered : ℕ → List (Table (List ℕ)) → List (ℕ × Table (List ℕ))
numbered n [] = []
numbered n (t ∷ ts) = (n, t) ∷ numbered (n + 1) ts

-- Under the number of each place of the list stand the numbers that the list has there, and under the others what the entries have.
abbrev pub users_in : List (Table (List ℕ)) → List (ℕ × Table (List ℕ)) → UsersByStep
users_in near far = finite.from_entries (numbered 0 near ++ far)

-- No set has a number.
abbrev pub AreAllEmpty : List (Table (List ℕ)) → Type 0
AreAllEmpty ts = (t : Table (List ℕ)) → In t ts → t.held ≡ []

-- The list has grown by sets of no numbers, and is else what it was.
abbrev pub HasGrown : List (Table (List ℕ)) → List (Table (List ℕ)) → Type 0
HasGrown old new = (more : List (Table (List ℕ))) × (new ≡ old ++ more) × AreAllEmpty more

-- the step numbers that a table has, none where there is no table
abbrev pub numbers_in : Option (Table (List ℕ)) → List ℕ
numbers_in None = []
numbers_in (Some t) = t.held

-- how many more step numbers a table takes without memory, zero where there is no table
abbrev pub room_in : Option (Table (List ℕ)) → ℕ
room_in None = 0
room_in (Some t) = t.room

-- the numbers that stand under m
abbrev pub users_at : UsersByStep → ℕ → List ℕ
users_at users m = numbers_in (finite.get users m)

-- how many more numbers m takes without memory
abbrev pub room_at : UsersByStep → ℕ → ℕ
room_at users m = room_in (finite.get users m)

-- n stands under m
abbrev pub IsUser : UsersByStep → ℕ → ℕ → Type 0
IsUser users m n = In n (users_at users m)

-- n stands under m, or there is room for it
abbrev pub CanTake : UsersByStep → ℕ → ℕ → Type 0
CanTake users m n = (0 < room_at users m) ⊎ IsUser users m n

-- An index is the users of each step, and the binder of each variable.
pub record Index : Type 0 where
  pub users : UsersByStep
  pub binders : Table BindersByVariable

-- the step numbered m bound one of the variables of the list
abbrev pub BoundOneOf : BindersByVariable → List VarName → ℕ → Type 0
BoundOneOf binders xs m = (x : VarName) × In x xs × (finite.get binders x ≡ Some m)

-- The step numbered m gave what is used: it is the maker of the goal, or bound a variable that was read.
abbrev pub Gave : BindersByVariable → Option ℕ → Variables → ℕ → Type 0
Gave binders maker reads m = (maker ≡ Some m) ⊎ ((x : VarName) × IsTrue (set.contains reads x) × (finite.get binders x ≡ Some m))

-- The step numbered m of the record made the variable x.
abbrev pub IsMakerOf : List Record → VarName → ℕ → Type 0
IsMakerOf rs x m = (a : Record) × In a rs × (a.number ≡ m) × MakesVariable a x

-- the step numbered m of the record made one of the variables of the list
abbrev pub MadeOneOf : List Record → List VarName → ℕ → Type 0
MadeOneOf rs xs m = (x : VarName) × In x xs × IsMakerOf rs x m

-- the number of the step that made the goal of this name, by the name
abbrev pub step_named : Option GoalName → Option ℕ
step_named None = None
step_named (Some g) = Some g.step

-- The step numbered n of the record depends directly on the step numbered m.
abbrev pub StepDependsOn : List Record → ℕ → ℕ → Type 0
StepDependsOn rs n m = (a b : Record) × (a.number ≡ m) × (b.number ≡ n) × DependsOn rs b a

-- The step numbered n of the record bound x.
abbrev pub StepBinds : List Record → ℕ → VarName → Type 0
StepBinds rs n x = (a : Record) × In a rs × (a.number ≡ n) × Binds a x

-- The index is that of the record: under each step stand the steps that depend directly on it, and under each variable the step that bound it.
pub record IsIndexOf (rs : List Record) (users : UsersByStep) (binders : BindersByVariable) : Type 0 where
  pub used : (m n : ℕ) → IsUser users m n ↔ StepDependsOn rs n m
  pub bound : (x : VarName) (n : ℕ) → (finite.get binders x ≡ Some n) ↔ StepBinds rs n x

-- A record in recorded order, the slots in which its steps stand, how many of these, from the first on, its index has, and how many
-- more steps it takes without memory.
pub record RecordsTables : Type 0 where
  pub held : List Record
  pub slots : SlotList
  pub indexed : ℕ
  pub room : ℕ

-- No two steps of the record bound one variable.
abbrev pub BoundOnce : List Record → Type 0
BoundOnce rs = (a b : Record) (x : VarName) → In a rs → In b rs → Binds a x → Binds b x → a.number ≡ b.number

-- The step numbered m of the record made the goal that r consumed.
abbrev pub IsMakerFor : List Record → Record → ℕ → Type 0
IsMakerFor rs r m = (a : Record) × In a rs × (a.number ≡ m) × Consumes r a
