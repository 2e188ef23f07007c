-- The parts of a face, as far as they tell of some goals.
use Rattle.std.specs.Prelude.{◌≡◌, ◌↔◌, ◌⊎◌, ℕ, List, Some, IsTrue}
use Rattle.std.specs.FinMap as finite
use Rattle.std.specs.FinSet as set
use Rattle.ghc_term.specs.declared.var_name.VarName.{VarName}
use Rattle.ghc_term.specs.declared.goal_name.GoalName.{GoalName}
use Rattle.ghc_term.specs.Lists.{In}
use Rattle.ghc_term.specs.Sets.{Variables}
use Rattle.ghc_term.specs.Store.{StoreValue, value_at}
use Rattle.ghc_term.specs.Tree.{Tree}
use Rattle.ghc_flat.specs.Clause.{Clause, Program, IsClause, IsFor}
use Rattle.ghc_match.specs.Match.{Outcome, HasOutcome}
use Rattle.ghc_fire.specs.Goals.{Goals}
use Rattle.ghc_hooks.specs.declared.face.status.Kind.{Kind}
use Rattle.ghc_hooks.specs.Status.{Status, waiting}
use Rattle.ghc_hooks.specs.Face.{GoalNames, ClauseSays, StandsAs}
use Rattle.ghc_hooks.specs.inner.FaceCode.{StatusesByGoal, HookPairs, OutcomesByClause}
use Rattle.ghc_hooks.specs.inner.Kinds.{kind_of}

-- Under the program P, clause k is one for the call of f with the arguments ts, and tried from scratch in the store it has the outcome o.
abbrev pub SaysToCall : Program → StoreValue → List ℕ → List Tree → ℕ → Outcome → Type 0
SaysToCall P store f ts k o = (c : Clause) × IsClause P k c × IsFor f ts c × HasOutcome c ts (value_at store) o

-- All that the outcomes have of the goal named g is so said to it.
abbrev pub HaveOnly : OutcomesByClause → GoalName → (ℕ → Outcome → Type 0) → Type 0
HaveOnly outcomes g Says = (k : ℕ) (o : Outcome) → finite.get outcomes (g, k) ≡ Some o → Says k o

-- The new outcomes have what the old ones have, all that is so said to the goal named g, and nothing else.
abbrev pub HaveBesides : OutcomesByClause → GoalName → (ℕ → Outcome → Type 0) → OutcomesByClause → Type 0
HaveBesides old g Says new = (h : GoalName) (k : ℕ) (o : Outcome) → (finite.get new (h, k) ≡ Some o) ↔ ((finite.get old (h, k) ≡ Some o) ⊎ ((h ≡ g) × Says k o))

-- For those of these goals that are calls the outcomes have what each of their clauses says, and nothing else.
abbrev pub TellsOutcomes : Program → Goals → StoreValue → List GoalName → OutcomesByClause → Type 0
TellsOutcomes P G s gs outcomes = (g : GoalName) (k : ℕ) (o : Outcome) → (finite.get outcomes (g, k) ≡ Some o) ↔ (In g gs × ClauseSays P G s g k o)

-- The statuses are those of these goals.
abbrev pub TellsStatuses : Program → Goals → StoreValue → List GoalName → StatusesByGoal → Type 0
TellsStatuses P G s gs statuses = (g : GoalName) (t : Status) → (finite.get statuses g ≡ Some t) ↔ (In g gs × StandsAs P G s g t)

-- By its status the goal named g waits, for x among others.
abbrev pub WaitsBy : StatusesByGoal → VarName → GoalName → Type 0
WaitsBy statuses x g = (xs : Variables) × (finite.get statuses g ≡ Some (waiting xs)) × IsTrue (set.contains xs x)

-- The new hooks are the old ones, the goal named g on each of these variables, and nothing else.
abbrev pub HooksBesides : HookPairs → List VarName → GoalName → HookPairs → Type 0
HooksBesides old xs g new = (y : VarName) (h : GoalName) → IsTrue (set.contains new (y, h)) ↔ (IsTrue (set.contains old (y, h)) ⊎ (In y xs × (h ≡ g)))

-- The hooks are those of these goals, by their statuses.
abbrev pub TellsHooks : StatusesByGoal → List GoalName → HookPairs → Type 0
TellsHooks statuses gs hooks = (x : VarName) (g : GoalName) → IsTrue (set.contains hooks (x, g)) ↔ (In g gs × WaitsBy statuses x g)

-- The status of the goal named g is of this kind.
abbrev pub IsOfKind : StatusesByGoal → Kind → GoalName → Type 0
IsOfKind statuses kind g = (s : Status) × (finite.get statuses g ≡ Some s) × (kind_of s ≡ kind)

-- The pool has those of these goals whose status is of this kind.
abbrev pub TellsPool : StatusesByGoal → Kind → List GoalName → GoalNames → Type 0
TellsPool statuses kind gs pool = (g : GoalName) → IsTrue (set.contains pool g) ↔ (In g gs × IsOfKind statuses kind g)
