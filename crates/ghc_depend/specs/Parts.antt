-- Parts of the record: what came of a goal, what the goal was given and gave, and the slice of a place within a value.
use Rattle.std.specs.Prelude.{◌≡◌, ◌⊎◌, ◌↔◌, Bool, List, [], ◌∷◌, ◌++◌, Option, Some, IsTrue}
use Rattle.std.specs.FinMap as finite
use Rattle.ghc_term.specs.declared.var_name.VarName.{VarName}
use Rattle.ghc_term.specs.declared.goal_name.GoalName.{GoalName}
use Rattle.ghc_term.specs.Lists.{In}
use Rattle.ghc_term.specs.Tree.{Tree, variable}
use Rattle.ghc_term.specs.Bindings.{Reaches}
use Rattle.ghc_term.specs.Store.{value_at}
use Rattle.ghc_term.specs.Goal.{Goal}
use Rattle.ghc_flat.specs.Clause.{Program, Query}
use Rattle.ghc_flat.specs.Variables.{variables_of_goal}
use Rattle.ghc_flat.specs.Flat.{IsProgram, IsQuery}
use Rattle.ghc_records.specs.Orders.{Picks}
use Rattle.ghc_records.specs.Record.{State, Record, numbers, after, Fires}
use Rattle.ghc_records.specs.Replay.{Replays, Runs, IsVariableOf}
use Rattle.ghc_depend.specs.Depend.{Binds, Consumes, MakesGoal, MakesVariable, NamesFrom, ReadsFrom, Follows, Descends}
use Rattle.ghc_depend.specs.Deletion.{IsPartedBy}
use Rattle.ghc_depend.specs.Lawful.{IsLawful, IsInOrder}
use Rattle.ghc_depend.specs.Slices.{IsCauseOf, SameFrom}

-- The step is of the part of the goal g: its goal descends from g.
abbrev pub IsOfPart : List Record → GoalName → Record → Type 0
IsOfPart rs g s = (k : GoalName) × (s.goal ≡ Some k) × Descends rs g k

-- The part of the goal g that the step r took is r itself and the parts of the goals that r made; r is of none of these, and no step is of two.
pub record IsPartedByMakes (rs : List Record) (r : Record) (g : GoalName) : Type 0 where
  pub whole : (s : Record) → In s rs → IsOfPart rs g s ↔ ((s ≡ r) ⊎ ((h : GoalName) × MakesGoal r h × IsOfPart rs h s))
  pub apart : (h : GoalName) → MakesGoal r h → ¬ IsOfPart rs h r
  pub once : (h k : GoalName) (s : Record) → MakesGoal r h → MakesGoal r k → IsOfPart rs h s → IsOfPart rs k s → h ≡ k

-- So it is for all records that replay.
abbrev pub PartsAreParted : Type 0
PartsAreParted =
    (P : Program) (query : Query) (rs : List Record) (t : State) (r : Record) (g : GoalName) → Replays P query rs t → In r rs → r.goal ≡ Some g
    → IsPartedByMakes rs r g

-- A judgement of what goals did finds the step s at fault: it took the goal k, which is judged wrong, and each goal that it made and a step took is judged right.
abbrev pub IsAtFault : List Record → (GoalName → Bool) → Record → GoalName → Type 0
IsAtFault rs right s k = (s.goal ≡ Some k) × (¬ IsTrue (right k)) × ((q : Record) (h : GoalName) → In q rs → q.goal ≡ Some h → MakesGoal s h → IsTrue (right h))

-- However goals are judged, the part of a goal that is judged wrong has a step at fault.
abbrev pub WrongPartsHaveFaults : Type 0
WrongPartsHaveFaults =
    (P : Program) (query : Query) (rs : List Record) (t : State) (right : GoalName → Bool) (r : Record) (g : GoalName) → Replays P query rs t → In r rs
    → r.goal ≡ Some g → ¬ IsTrue (right g) → (s : Record) × (k : GoalName) × In s rs × IsOfPart rs g s × IsAtFault rs right s k

-- The variable x is within the goal, with the bindings of S put in: one of its variables reaches x.
abbrev pub IsWithinGoal : (VarName → Option Tree) → Goal → VarName → Type 0
IsWithinGoal S b x = (y : VarName) × In y (variables_of_goal b) × Reaches S (variable y) x

-- The goal b, named g, was given x: x is within it, and a step that is not of its part bound x.
abbrev pub WasGiven : List Record → (VarName → Option Tree) → GoalName → Goal → VarName → Type 0
WasGiven rs S g b x = IsWithinGoal S b x × ((q : Record) × In q rs × (¬ IsOfPart rs g q) × Binds q x)

-- The goal b, named g, gave x: x is within it, and a step of its part bound x.
abbrev pub HasGiven : List Record → (VarName → Option Tree) → GoalName → Goal → VarName → Type 0
HasGiven rs S g b x = IsWithinGoal S b x × ((q : Record) × In q rs × IsOfPart rs g q × Binds q x)

-- The step r reaches into the part of the goal g: it asks, and names a variable that a step of the part made.
abbrev pub IsReachedInto : List Record → GoalName → Record → Type 0
IsReachedInto rs g r = (q : Record) × (x : VarName) × In q rs × IsOfPart rs g q × NamesFrom r q x

-- No ask reaches into the part of the goal g.
abbrev pub NoAskReachesInto : List Record → GoalName → Type 0
NoAskReachesInto rs g = (r : Record) → In r rs → ¬ IsReachedInto rs g r

-- the state that has the goal b, named g, and nothing else
abbrev pub goal_alone : GoalName → Goal → State
goal_alone g b = record { goals = finite.insert finite.empty g b; store = finite.empty }

-- The state u is s with those bindings of the step r more that were given.
pub record GainsGiven (given : VarName → Type 0) (r : Record) (s u : State) : Type 0 where
  pub goals : u.goals ≡ s.goals
  pub gained : (x : VarName) (t : Tree) → given x → value_at r.effect.binds x ≡ Some t → value_at u.store x ≡ Some t
  pub others : (x : VarName) → ¬ (given x × Binds r x) → value_at u.store x ≡ value_at s.store x

-- RunsAmong P part given s rs t: run from the state s, each step of the part is possible in its turn, with the effect recorded; of each other step just the bindings come that were given; and the last leaves the state t.
pub data RunsAmong (P : Program) (part : Record → Type 0) (given : VarName → Type 0) : State → List Record → State → Type 0 where
  at_end : {s : State} → RunsAmong P part given s [] s
  of_part : {s t : State} {r : Record} {rs : List Record} → part r → Fires P s r → RunsAmong P part given (after s r) rs t → RunsAmong P part given s (r ∷ rs) t
  of_others : {s t u : State} {r : Record} {rs : List Record} → ¬ part r → GainsGiven given r s u → RunsAmong P part given u rs t → RunsAmong P part given s (r ∷ rs) t

-- From the goal b, named g, alone, its part runs among the other steps, which add just what it was given; all within the goal ends as in t.
pub record PartRunsAmongOthers (P : Program) (rs : List Record) (t : State) (g : GoalName) (b : Goal) : Type 0 where
  pub end : State
  pub runs : RunsAmong P (IsOfPart rs g) (WasGiven rs (value_at t.store) g b) (goal_alone g b) rs end
  pub same : (x : VarName) → IsWithinGoal (value_at t.store) b x → value_at end.store x ≡ value_at t.store x

-- So it is for all records that replay from an accepted program and query, and for each goal that a step took, where no ask reaches into its part.
abbrev pub PartsRunAmongOthers : Type 0
PartsRunAmongOthers =
    (P : Program) (query : Query) (rs : List Record) (t : State) (r : Record) (g : GoalName) (b : Goal) → IsProgram P → IsQuery P query → Replays P query rs t
    → In r rs → r.goal ≡ Some g → r.consumed ≡ Some b → NoAskReachesInto rs g → PartRunsAmongOthers P rs t g b

-- The step s takes no goal that the part of the goal b, named g, made, and reads of what the part bound only what the goal gave.
pub record SeesWhatPartGave (rs : List Record) (S : VarName → Option Tree) (g : GoalName) (b : Goal) (s : Record) : Type 0 where
  pub takes : (q : Record) → In q rs → IsOfPart rs g q → ¬ Consumes s q
  pub reads : (q : Record) (x : VarName) → In q rs → IsOfPart rs g q → ReadsFrom s q x → HasGiven rs S g b x

-- So it is for all records that replay from an accepted program and query, for each goal that a step took, where no ask reaches into its part, and for each step that is not of the part.
abbrev pub OthersSeeWhatPartsGave : Type 0
OthersSeeWhatPartsGave =
    (P : Program) (query : Query) (rs : List Record) (t : State) (r s : Record) (g : GoalName) (b : Goal) → IsProgram P → IsQuery P query → Replays P query rs t
    → In r rs → r.goal ≡ Some g → r.consumed ≡ Some b → NoAskReachesInto rs g → In s rs → ¬ IsOfPart rs g s → SeesWhatPartGave rs (value_at t.store) g b s

-- The step follows from the part of the goal g: it is a consequence of a step of the part.
abbrev pub FollowsFromPart : List Record → GoalName → Record → Type 0
FollowsFromPart rs g q = (p : Record) × In p rs × IsOfPart rs g p × Follows rs p q

-- The goal b, named g, goes in turns: something that it was given was bound by a step that follows from its part.
abbrev pub GoesInTurns : List Record → (VarName → Option Tree) → GoalName → Goal → Type 0
GoesInTurns rs S g b = (x : VarName) × (q : Record) × IsWithinGoal S b x × In q rs × (¬ IsOfPart rs g q) × FollowsFromPart rs g q × Binds q x

-- Three lists of the steps, each in recorded order: first those that are not of the part of the goal g and do not follow from it, then the part, and later the others that follow from it.
pub record AreInThree (rs : List Record) (g : GoalName) (first part later : List Record) : Type 0 where
  pub is_first : Picks (λ q. (¬ IsOfPart rs g q) × (¬ FollowsFromPart rs g q)) rs first
  pub is_part : Picks (IsOfPart rs g) rs part
  pub is_later : Picks (λ q. (¬ IsOfPart rs g q) × FollowsFromPart rs g q) rs later

-- Where a goal does not go in turns, and no ask reaches into its part, the three lists one after the other are a lawful order.
abbrev pub PartsComeTogether : Type 0
PartsComeTogether =
    (P : Program) (query : Query) (rs : List Record) (t : State) (r : Record) (g : GoalName) (b : Goal) (first part later : List Record) → IsProgram P → IsQuery P query
    → Replays P query rs t → In r rs → r.goal ≡ Some g → r.consumed ≡ Some b → NoAskReachesInto rs g → ¬ GoesInTurns rs (value_at t.store) g b
    → AreInThree rs g first part later → IsLawful rs (numbers (first ++ (part ++ later))) × IsInOrder rs (numbers (first ++ (part ++ later))) (first ++ (part ++ later))

-- The state has the goal b, named g, alone, and just those bindings of S that the goal was given.
pub record HasWhatWasGiven (rs : List Record) (S : VarName → Option Tree) (g : GoalName) (b : Goal) (u : State) : Type 0 where
  pub goals : u.goals ≡ finite.insert finite.empty g b
  pub bound : (x : VarName) (c : Tree) → (value_at u.store x ≡ Some c) ↔ (WasGiven rs S g b x × (S x ≡ Some c))

-- The part of the goal b, named g, runs alone from what the goal was given, with the effects recorded; all within the goal ends as in t.
pub record PartRunsAlone (P : Program) (rs : List Record) (t : State) (g : GoalName) (b : Goal) (part : List Record) : Type 0 where
  pub begin : State
  pub end : State
  pub given : HasWhatWasGiven rs (value_at t.store) g b begin
  pub runs : Runs P begin part end
  pub same : (x : VarName) → IsWithinGoal (value_at t.store) b x → value_at end.store x ≡ value_at t.store x

-- So it is where the goal does not go in turns, and no ask reaches into its part.
abbrev pub PartsRunAlone : Type 0
PartsRunAlone =
    (P : Program) (query : Query) (rs : List Record) (t : State) (r : Record) (g : GoalName) (b : Goal) (part : List Record) → IsProgram P → IsQuery P query
    → Replays P query rs t → In r rs → r.goal ≡ Some g → r.consumed ≡ Some b → NoAskReachesInto rs g → ¬ GoesInTurns rs (value_at t.store) g b
    → Picks (IsOfPart rs g) rs part → PartRunsAlone P rs t g b part

-- The variable y is on a way from x to z, or z reaches it.
abbrev pub IsOnWay : (VarName → Option Tree) → VarName → VarName → VarName → Type 0
IsOnWay S x z y = Reaches S (variable x) y × (Reaches S (variable y) z ⊎ Reaches S (variable z) y)

-- The step gave z its term and its place in the term of x: it bound a variable on a way from x to z or one that z reaches, or made x or z.
abbrev pub GavePlace : (VarName → Option Tree) → VarName → VarName → Record → Type 0
GavePlace S x z r = ((y : VarName) × IsOnWay S x z y × Binds r y) ⊎ MakesVariable r x ⊎ MakesVariable r z

-- The slice of the place of z in the term of x replays alone, with the effects recorded; x reaches z there, and z stands for what it stands for.
pub record PlaceIsAlone (P : Program) (query : Query) (t : State) (x z : VarName) (slice : List Record) : Type 0 where
  pub state : State
  pub replays : Replays P query slice state
  pub known : IsVariableOf query slice x × IsVariableOf query slice z
  pub reached : Reaches (value_at state.store) (variable x) z
  pub same : SameFrom z (value_at t.store) (value_at state.store)

-- So it is for all records that replay from an accepted program and query, and for each place.
abbrev pub PlacesAreAlone : Type 0
PlacesAreAlone =
    (P : Program) (query : Query) (kept : List Record) (t : State) (x z : VarName) (slice rest : List Record) → IsProgram P → IsQuery P query
    → Replays P query kept t → IsVariableOf query kept x → IsVariableOf query kept z → Reaches (value_at t.store) (variable x) z
    → IsPartedBy kept (IsCauseOf kept (GavePlace (value_at t.store) x z)) slice rest → PlaceIsAlone P query t x z slice
