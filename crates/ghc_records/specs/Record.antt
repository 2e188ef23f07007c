-- Records of steps, and the state that a step leaves.
use Rattle.std.specs.Prelude.{◌≡◌, ℕ, ◌+◌, List, [], ◌∷◌, map, Option, Some, None}
use Rattle.std.specs.Ordering.{nat_cmp}
use Rattle.std.specs.FinMap as finite
use Rattle.ghc_term.specs.declared.var_name.VarName.{VarName}
use Rattle.ghc_term.specs.declared.goal_name.GoalName.{GoalName}
use Rattle.ghc_term.specs.Tree.{Tree}
use Rattle.ghc_term.specs.Goal.{Goal}
use Rattle.ghc_term.specs.Store.{StoreValue, value_at, with_binds}
use Rattle.ghc_flat.specs.Clause.{Program}
use Rattle.ghc_fire.specs.Goals.{Goals}
use Rattle.ghc_fire.specs.declared.act.Act.{Act}
use Rattle.ghc_fire.specs.declared.act.Act.TheVariants.{ByClause as by_clause, Unified as unified, Assigned as assigned, Given as given, Closed as closed, Asked as asked}
use Rattle.ghc_fire.specs.Asked.{Asks}
use Rattle.ghc_fire.specs.Firing.{Firing}
use Rattle.ghc_fire.specs.Effect.{Effect, HasEffect}

-- A state is its goals and its store.
pub record State : Type 0 where
  pub goals : Goals
  pub store : StoreValue

-- A record of a step: its number, the goal that it consumed, if any, by name and as written, its act, and its effect.
pub record Record : Type 0 where
  pub number : ℕ
  pub goal : Option GoalName
  pub consumed : Option Goal
  pub act : Act
  pub effect : Effect

-- the record of a step that fired
abbrev pub record_of : Firing → Record
record_of f = record { number = f.number; goal = f.goal; consumed = f.consumed; act = f.act; effect = f.effect }

-- The numbers of the records, in their order.
abbrev pub numbers : List Record → List ℕ
numbers rs = map (λ r. r.number) rs

-- A shelf is the records that were taken away and not redone, by number.
abbrev pub Shelf : Type 0
Shelf = finite.FinMap nat_cmp Record

-- the goals, with n.i, n.(i+1), .. added
abbrev pub with_makes : ℕ → ℕ → List Goal → Goals → Goals
with_makes n i [] m = m
with_makes n i (g ∷ gs) m = finite.insert (with_makes n (i + 1) gs m) (record { step = n; place = i }) g

-- the goals, without the one named, if one is
abbrev pub without_goal : Option GoalName → Goals → Goals
without_goal None m = m
without_goal (Some g) m = finite.remove m g

-- The state after a step: the goal that it consumed is gone, the goals that it made are there, and its bindings are in the store.
abbrev pub after : State → Record → State
after s r = record {
  goals = with_makes r.number 1 r.effect.makes (without_goal r.goal s.goals);
  store = with_binds (finite.entries r.effect.binds) s.store;
}

-- The goal that a step consumes is there; a step that consumes none needs none.
abbrev pub IsThere : Goals → Option GoalName → Option Goal → Type 0
IsThere m None consumed = consumed ≡ None
IsThere m (Some g) consumed = (b : Goal) × (consumed ≡ Some b) × (finite.get m g ≡ Some b)

-- The act on what is consumed has this effect as step n: one that asks for goals consumes none, and each other act consumes a goal.
abbrev pub HasStepEffect : Program → Option Goal → Act → ℕ → (VarName → Option Tree) → Effect → Type 0
HasStepEffect P None (by_clause k) n S e = ⊥
HasStepEffect P None unified n S e = ⊥
HasStepEffect P None assigned n S e = ⊥
HasStepEffect P None (given u) n S e = ⊥
HasStepEffect P None closed n S e = ⊥
HasStepEffect P None (asked gs) n S e = Asks P gs n e
HasStepEffect P (Some b) a n S e = HasEffect P b a n S e

-- The step is possible in the state, with the effect recorded.
abbrev pub Fires : Program → State → Record → Type 0
Fires P s r = IsThere s.goals r.goal r.consumed × HasStepEffect P r.consumed r.act r.number (value_at s.store) r.effect
