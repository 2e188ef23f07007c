-- How the part of a goal is gone through, and how it is found what its call was given.
use Rattle.std.specs.Prelude.{◌≡◌, ◌≢◌, ◌⊎◌, ◌↔◌, ℕ, Bool, true, false, List, [], ◌∷◌, ◌++◌, codes, Option, None, Some}
use Rattle.std.specs.BTreeSet.{insert_key}
use Rattle.std.specs.FinMap as finite
use Rattle.std.specs.Ordering.{nat_cmp}
use Rattle.ghc_term.specs.declared.var_name.VarName.{VarName}
use Rattle.ghc_term.specs.declared.goal_name.GoalName.{GoalName}
use Rattle.ghc_term.specs.Goal.{Goal}
use Rattle.ghc_term.specs.Store.{StoreValue}
use Rattle.ghc_term.specs.Tree.{Tree}
use Rattle.ghc_term.specs.Lists.{In}
use Rattle.ghc_records.specs.Orders.{Picks}
use Rattle.ghc_flat.specs.Clause.{Program, Query}
use Rattle.ghc_flat.specs.Flat.{IsQuery}
use Rattle.ghc_records.specs.Record.{Record, State, numbers}
use Rattle.ghc_records.specs.Replay.{Replays}
use Rattle.ghc_records.specs.inner.Slots.{SlotList}
use Rattle.ghc_records.specs.UseIndex.{StepBinds}
use Rattle.ghc_fire.specs.Asked.{variables_asked}
use Rattle.ghc_depend.specs.Depend.{Binds, DependsOn, Follows, MakesVariable}
use Rattle.ghc_depend.specs.Parts.{IsReachedInto}
use Rattle.ghc_depend.specs.inner.Places.{HasPlacesOfUsers}
use Rattle.ghc_core.specs.World.{IsReplay, World}
use Rattle.ghc_trace.specs.Parts.{ArePartNumbers}

-- These are the numbers of the records rs, which are kept.
pub record AreKeptAs (kept rs : List Record) (ns : List ℕ) : Type 0 where
  pub within : (r : Record) → In r rs → In r kept
  pub numbered : numbers rs ≡ ns

-- The step took the goal g, or one that a step of these numbers made.
abbrev pub IsTakenUp : GoalName → List ℕ → Record → Type 0
IsTakenUp g ns r = (h : GoalName) × (r.goal ≡ Some h) × ((h ≡ g) ⊎ In h.step ns)

-- The variable x is bound in S, by one kept step alone, whose number is none of these.
pub record IsGivenIn (kept : List Record) (ns : List ℕ) (S : VarName → Option Tree) (x : VarName) : Type 0 where
  pub value : Tree
  pub bound : S x ≡ Some value
  pub binder : ℕ
  pub binds : StepBinds kept binder x
  pub alone : (n : ℕ) → StepBinds kept n x → n ≡ binder
  pub outside : ¬ In binder ns

-- What a step of rs depends on in rs is what it depends on among the kept ones.
abbrev pub AreWithCauses : List Record → List Record → Type 0
AreWithCauses kept rs = (a b : Record) → DependsOn rs b a ↔ (In b rs × DependsOn kept b a)

-- In the world v just those of the kept steps are kept that have these numbers, with all on which they depend, and they left this store. No two kept steps bound one variable.
pub record IsWorldOf (kept : List Record) (ns : List ℕ) (store : StoreValue) (v : World) : Type 0 where
  pub replay : IsReplay v v.kept v.state
  pub bound_once : (x : VarName) (n m : ℕ) → StepBinds kept n x → StepBinds kept m x → n ≡ m
  pub steps : AreKeptAs kept v.kept ns
  pub causes : AreWithCauses kept v.kept
  pub left : v.state.store ≡ store

-- The store U binds these variables as S does, and no other.
pub record BindsAlone (xs : List VarName) (S U : VarName → Option Tree) : Type 0 where
  pub those : (x : VarName) → In x xs → U x ≡ S x
  pub only : (x : VarName) (t : Tree) → U x ≡ Some t → In x xs

-- A kept step of these numbers made x, and its number is another one.
abbrev pub IsMadeInside : List Record → List ℕ → ℕ → VarName → Type 0
IsMadeInside kept ns number x = (x.step ≢ number) × ((q : Record) × In q kept × In q.number ns × MakesVariable q x)

-- The step asks for goals in which a variable stands that another step made, which is kept and of these numbers.
abbrev pub NamesInside : List Record → List ℕ → Record → Type 0
NamesInside kept ns r = (x : VarName) × In x (variables_asked r.act) × IsMadeInside kept ns r.number x

-- A step that bound one of these variables follows from a kept step of these numbers.
abbrev pub OneFollows : List Record → List ℕ → List VarName → Type 0
OneFollows kept ns xs = (x : VarName) × (r q : Record) × In x xs × In r kept × Binds r x × In q kept × In q.number ns × Follows kept q r

-- how a call went on that was made, where the goal of its name is there or none is
abbrev pub fate_word : Option Goal → List ℕ
fate_word (Some b) = codes " stands "
fate_word None = codes " gave "

-- the line of a call that went in turns, and of another one nothing
abbrev pub turns_text : Bool → List ℕ
turns_text true = codes "in turns\n"
turns_text false = []

-- Of the records rs, these are the numbers of those of which P holds, in their order.
abbrev pub ArePickedNumbers : (Record → Type 0) → List Record → List ℕ → Type 0
ArePickedNumbers P rs ns = (found : List Record) × Picks P rs found × (numbers found ≡ ns)

-- The number n was put at the end if P holds, and else nothing.
abbrev pub IsPutIf : Type 0 → ℕ → List ℕ → List ℕ → Type 0
IsPutIf P n old new = (P × (new ≡ old ++ n ∷ [])) ⊎ ((¬ P) × (new ≡ old))

-- If the step took the goal g, or one that a step of these numbers made, its number was put to these, and the places of the steps that depend directly on it to those that are ahead; else nothing was put.
abbrev pub IsTaken : SlotList → GoalName → Record → List ℕ → List ℕ → List ℕ → List ℕ → Type 0
IsTaken ss g r old new ahead next =
    (IsTakenUp g old r × (new ≡ insert_key nat_cmp old r.number) × HasPlacesOfUsers ss r.number ahead next)
    ⊎ ((¬ IsTakenUp g old r) × (new ≡ old) × (next ≡ ahead))

-- The kept step took the goal g; where no step is given, none took it.
abbrev pub IsTakerIn : List Record → GoalName → Option Record → Type 0
IsTakerIn kept g (Some r) = In r kept × (r.goal ≡ Some g)
IsTakerIn kept g None = (r : Record) → In r kept → r.goal ≢ Some g

-- The kept step took the goal b, named g; where no step is given, the goal is there.
abbrev pub IsTakenOrThere : World → GoalName → Goal → Option Record → Type 0
IsTakenOrThere w g b (Some r) = In r w.kept × (r.goal ≡ Some g) × (r.consumed ≡ Some b)
IsTakenOrThere w g b None = finite.get w.state.goals g ≡ Some b

-- These are the numbers of the steps of the part of the goal g, and of the asks that reach into it.
pub record IsPartOf (kept : List Record) (g : GoalName) (steps asks : List ℕ) : Type 0 where
  pub numbered : ArePartNumbers kept g steps
  pub reaching : ArePickedNumbers (IsReachedInto kept g) kept asks

-- So it is wherever the kept steps replay from a query that was accepted.
abbrev pub IsPartFound : List Record → GoalName → List ℕ → List ℕ → Type 0
IsPartFound kept g steps asks = (P : Program) (query : Query) (t : State) → IsQuery P query → Replays P query kept t → IsPartOf kept g steps asks
