-- What an attempt reads of a core, apart from it.
use Rattle.std.specs.Prelude.{◌≡◌, ◌<◌, ℕ, List, length, Option, Some, MatchOption}
use Rattle.std.specs.FinMap as finite
use Rattle.ghc_term.specs.declared.goal_name.GoalName.{GoalName}
use Rattle.ghc_term.specs.declared.var_name.VarName.{VarName}
use Rattle.ghc_term.specs.Tree.{Tree}
use Rattle.ghc_term.specs.Goal.{Goal, call}
use Rattle.ghc_term.specs.Store.{value_at}
use Rattle.ghc_flat.specs.Clause.{Program}
use Rattle.ghc_flat.specs.Numbers.{AreNumbersFor}
use Rattle.ghc_match.specs.Looked.{GoalLooksAt}
use Rattle.ghc_core.specs.World.{World}
use Rattle.ghc_core.specs.Core.{IsStanding}
use Rattle.ghc_core.specs.GoneThrough.{ReachFew}

-- An excerpt is the world of which it is, and the name of a goal of that world.
pub record Excerpt : Type 0 where
  pub world : World
  pub goal : GoalName

-- The program is that of the world, the goal b, a call, stands there under the name g, and M tells of each variable that it looks at by the program and M what the store of the world tells.
pub record IsExcerpt (w : World) (g : GoalName) (P : Program) (b : Goal) (M : VarName → Option Tree) : Type 0 where
  pub standing : IsStanding w
  pub program : P ≡ w.opening.program
  pub there : finite.get w.state.goals g ≡ Some b
  pub called : (f : List ℕ) × (ts : List Tree) × (b ≡ call f ts)
  pub tells : (x : VarName) → GoalLooksAt P M b x → value_at w.state.store x ≡ M x

-- As many clauses are few: a call of no more is matched where it stands.
abbrev pub few_clauses : ℕ
few_clauses = 32

-- The program has more than a few clauses for the calls of this name and arity.
abbrev pub HasManyClauses : Program → List ℕ → ℕ → Type 0
HasManyClauses P f n = (ks : List ℕ) × AreNumbersFor P f n ks × (few_clauses < length ks)

-- An excerpt of the goal named g is worth its while. It is a call that stands in the world, the program has many clauses for it, and few terms are gone through for its arguments, as the store tells bindings.
pub record IsWorthAnExcerpt (w : World) (g : GoalName) : Type 0 where
  pub name : List ℕ
  pub arguments : List Tree
  pub there : finite.get w.state.goals g ≡ Some (call name arguments)
  pub clauses : HasManyClauses w.opening.program name (length arguments)
  pub terms : ReachFew (value_at w.state.store) arguments

-- The excerpt of the goal named g in the world is given, or nothing. Nothing is given only where an excerpt is not worth its while.
abbrev pub GivesExcerpt : World → GoalName → Option Excerpt → Type 0
GivesExcerpt w g found = MatchOption found (¬ IsWorthAnExcerpt w g) (λ e. (e.world ≡ w) × (e.goal ≡ g))
