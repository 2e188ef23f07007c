-- Laws of what `whynot` tells.
use Rattle.std.specs.Prelude.{◌≡◌, ◌≢◌, ◌⊎◌, ◌↔◌, ℕ, None, Some}
use Rattle.ghc_term.specs.declared.var_name.VarName.{VarName}
use Rattle.ghc_term.specs.declared.goal_name.GoalName.{GoalName}
use Rattle.ghc_term.specs.Goal.{Goal}
use Rattle.ghc_term.specs.Lists.{In}
use Rattle.ghc_term.specs.Store.{value_at}
use Rattle.ghc_fire.specs.declared.act.Act.TheVariants.{ByClause as by_clause}
use Rattle.ghc_records.specs.Record.{Record}
use Rattle.ghc_records.specs.Replay.{IsVariableOf}
use Rattle.ghc_core.specs.declared.changes.Change.TheVariants.{Comes as comes}
use Rattle.ghc_core.specs.declared.changes.Coming.{Coming}
use Rattle.ghc_core.specs.Change.{CanChange, Changes}
use Rattle.ghc_core.specs.Reached.{Reaches}
use Rattle.ghc_core.specs.World.{World}
use Rattle.ghc_trace.specs.declared.holding.Holder.{Holder}
use Rattle.ghc_trace.specs.Holding.{GoalReaches, IsReaching, IsUnboundIn}
use Rattle.ghc_trace.specs.WhyNot.{HasLost, IsAskedAbout, IsAwaitedBy, MayBeBound, MayGoOn}

-- Steps, inputs and closes lead from the world w to the world v, each new or from the shelf; no step asks, none is taken back, and the order stays.
pub data GoesOn (w : World) : World → Type 0 where
  at_once : GoesOn w w
  by_step : {u v : World} (from : Coming) (r : Record) → GoesOn w u → r.goal ≢ None → CanChange u (comes from r) → Changes u (comes from r) v → GoesOn w v

-- Where no goal that reaches a variable asked about may take a step, none of these variables is bound in the world v.
abbrev pub StayUnbound : World → World → (VarName → Type 0) → Type 0
StayUnbound w v First = ¬ MayBeBound w First → (y : VarName) → IsAskedAbout w First y → value_at v.state.store y ≡ None

-- So it is where one asks about a variable of the query or of a kept step, and where one asks about a goal.
pub record AllStayUnbound (w v : World) : Type 0 where
  pub of_variable : (x : VarName) → IsVariableOf w.opening.query w.kept x → StayUnbound w v (IsUnboundIn (value_at w.state.store) x)
  pub of_goal : (g : GoalName) → StayUnbound w v (IsAwaitedBy w g)

-- So it is after any steps, inputs and closes.
abbrev pub WhatStaysUnboundIsNeverBound : Type 0
WhatStaysUnboundIsNeverBound = (w v : World) → Reaches w → GoesOn w v → AllStayUnbound w v

-- The goal named g may take a step, now or later: now, or it waits for a variable that such a goal reaches.
pub data MayEverGoOn (w : World) : GoalName → Type 0 where
  now : {g : GoalName} → MayGoOn w g → MayEverGoOn w g
  once_bound : {g : GoalName} (h : Holder) → MayEverGoOn w h.goal → IsReaching w.state h → IsAwaitedBy w g h.variable → MayEverGoOn w g

-- A variable asked about may be bound just where a goal that may take a step, now or later, reaches one asked about first.
abbrev pub MayBeBoundWhereReached : World → (VarName → Type 0) → Type 0
MayBeBoundWhereReached w First = MayBeBound w First ↔ ((h : Holder) × First h.variable × IsReaching w.state h × MayEverGoOn w h.goal)

-- So it is where one asks about a variable, and where one asks about a goal.
pub record AllMayBeBoundWhereReached (w : World) : Type 0 where
  pub of_variable : (x : VarName) → MayBeBoundWhereReached w (IsUnboundIn (value_at w.state.store) x)
  pub of_goal : (g : GoalName) → MayBeBoundWhereReached w (IsAwaitedBy w g)

-- So it is in each world.
abbrev pub WhatMayBeBoundIsReached : Type 0
WhatMayBeBoundIsReached = (w : World) → AllMayBeBoundWhereReached w

-- A kept step that took a goal by a clause, where the goal reaches y in the present store, lost y, or made a goal that reaches it: who had y has it, has passed it on, or lost it.
abbrev pub WhoHadItHasItOrLostIt : Type 0
WhoHadItHasItOrLostIt =
    (w : World) (r : Record) (k : ℕ) (b : Goal) (y : VarName) → Reaches w → In r w.kept → r.act ≡ by_clause k → r.consumed ≡ Some b → GoalReaches (value_at w.state.store) b y
    → HasLost w y r ⊎ ((c : Goal) × In c r.effect.makes × GoalReaches (value_at w.state.store) c y)
