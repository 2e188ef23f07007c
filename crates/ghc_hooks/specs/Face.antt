-- The face of a state: what one can see of it.
use Rattle.std.specs.Prelude.{◌≡◌, ◌↔◌, ℕ, List, Some, IsTrue}
use Rattle.std.specs.Ordering.{nat_cmp, ordering_then}
use Rattle.std.specs.declared.cmp.Ordering.{Ordering}
use Rattle.std.specs.FinMap as finite
use Rattle.std.specs.FinSet as set
use Rattle.ghc_term.specs.declared.var_name.VarName.{VarName}
use Rattle.ghc_term.specs.declared.goal_name.GoalName.{GoalName}
use Rattle.ghc_term.specs.Bindings.{name_cmp}
use Rattle.ghc_term.specs.Tree.{Tree}
use Rattle.ghc_term.specs.Goal.{Goal, call}
use Rattle.ghc_term.specs.Store.{StoreValue, value_at}
use Rattle.ghc_flat.specs.Clause.{Clause, Program, IsClause, IsFor}
use Rattle.ghc_term.specs.Sets.{Variables}
use Rattle.ghc_match.specs.Match.{Outcome, HasOutcome}
use Rattle.ghc_term.specs.declared.fault.Fault.{Fault}
use Rattle.ghc_fire.specs.Goals.{goal_cmp, Goals}
use Rattle.ghc_hooks.specs.Status.{Status, ready, waiting, failed, streaming, HasStatus}

-- pairs by their first parts, then their second parts
abbrev pub pair_cmp : {A B : Type 0} → (A → A → Ordering) → (B → B → Ordering) → (A × B) → (A × B) → Ordering
pair_cmp first second p q = ordering_then (first p.0 q.0) (second p.1 q.1)

-- A set of goals, by name.
abbrev pub GoalNames : Type 0
GoalNames = set.FinSet goal_cmp

-- A face: goals and store; for each call the outcome of each of its clauses, by number; each goal's status; hooks, as pairs of a variable and a goal that waits for it; the pools; and the stream goals.
pub record Face : Type 0 where
  pub goals : Goals
  pub store : StoreValue
  pub outcomes : finite.FinMap (pair_cmp goal_cmp nat_cmp) Outcome
  pub statuses : finite.FinMap goal_cmp Status
  pub hooks : set.FinSet (pair_cmp name_cmp goal_cmp)
  pub ready : GoalNames
  pub waiting : GoalNames
  pub failed : GoalNames
  pub streams : GoalNames

-- These are the goals G and the store of a state, under the program P.
module _ (P : Program) (G : Goals) (store : StoreValue) where
  -- The goal named g is a call, clause k is one for it, and tried from scratch it has the outcome o.
  abbrev pub ClauseSays : GoalName → ℕ → Outcome → Type 0
  ClauseSays g k o =
      (f : List ℕ) × (ts : List Tree) × (c : Clause) × (finite.get G g ≡ Some (call f ts)) × IsClause P k c × IsFor f ts c × HasOutcome c ts (value_at store) o

  -- The goal named g is there, and has the status s.
  abbrev pub StandsAs : GoalName → Status → Type 0
  StandsAs g s = (b : Goal) × (finite.get G g ≡ Some b) × HasStatus P (value_at store) b s

  -- The goal named g waits, for x among others.
  abbrev pub IsHookedOn : VarName → GoalName → Type 0
  IsHookedOn x g = (xs : Variables) × StandsAs g (waiting xs) × IsTrue (set.contains xs x)

  -- The face shows the state: each part has just what the words above say of goals and store.
  pub record IsFace (face : Face) : Type 0 where
    pub same_goals : face.goals ≡ G
    pub same_store : face.store ≡ store
    pub outcomes : (g : GoalName) (k : ℕ) (o : Outcome) → (finite.get face.outcomes (g, k) ≡ Some o) ↔ ClauseSays g k o
    pub statuses : (g : GoalName) (s : Status) → (finite.get face.statuses g ≡ Some s) ↔ StandsAs g s
    pub hooks : (x : VarName) (g : GoalName) → IsTrue (set.contains face.hooks (x, g)) ↔ IsHookedOn x g
    pub ready_pool : (g : GoalName) → IsTrue (set.contains face.ready g) ↔ StandsAs g ready
    pub waiting_pool : (g : GoalName) → IsTrue (set.contains face.waiting g) ↔ ((xs : Variables) × StandsAs g (waiting xs))
    pub failed_pool : (g : GoalName) → IsTrue (set.contains face.failed g) ↔ ((f : Fault) × StandsAs g (failed f))
    pub streams : (g : GoalName) → IsTrue (set.contains face.streams g) ↔ StandsAs g streaming
