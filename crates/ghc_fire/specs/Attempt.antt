-- What an attempt at a goal answers.
use Rattle.std.specs.Prelude.{◌≡◌, ℕ, ℤ, ◌<◌, List, Option, Some, None}
use Rattle.ghc_term.specs.declared.var_name.VarName.{VarName}
use Rattle.ghc_term.specs.Tree.{Tree, integer}
use Rattle.ghc_term.specs.Expression.{Expression}
use Rattle.ghc_term.specs.Goal.{Goal, call, unify, assign, stream}
use Rattle.ghc_flat.specs.Clause.{Clause, Program, IsClause, IsFor}
use Rattle.ghc_term.specs.Sets.{Variables}
use Rattle.ghc_match.specs.Value.{HasValue, number, waits as waits_for, bad}
use Rattle.ghc_match.specs.Match.{Accepts, Refuses, WaitsFor}
use Rattle.ghc_unify.specs.Unify.{Clashes, Cycles}
use Rattle.ghc_term.specs.declared.fault.Fault.{Fault}
use Rattle.ghc_term.specs.declared.fault.Fault.TheVariants.{NoGoal, NoClause, Waits, NoMatch, Clash, Cycle, Arithmetic}
use Rattle.ghc_fire.specs.declared.act.Act.{Act}
use Rattle.ghc_fire.specs.declared.act.Act.TheVariants.{ByClause as by_clause, Unified as unified, Assigned as assigned}
use Rattle.ghc_fire.specs.Effect.{Effect, HasEffect, no_step}

-- An attempt proposes an act with its effect, under any number or as the step of some number, or is refused.
pub data Answer : Type 0 where
  proposes : Act → Effect → Answer
  refused : Fault → Answer

-- Some clause for the call `f(ts)` accepts it.
abbrev pub SomeAccepts : Program → List ℕ → List Tree → (VarName → Option Tree) → Type 0
SomeAccepts P f ts S = (k : ℕ) × (c : Clause) × IsClause P k c × IsFor f ts c × Accepts c ts S

-- Some clause for the call `f(ts)` waits for x.
abbrev pub SomeWaitsFor : Program → List ℕ → List Tree → (VarName → Option Tree) → VarName → Type 0
SomeWaitsFor P f ts S x = (k : ℕ) × (c : Clause) × IsClause P k c × IsFor f ts c × WaitsFor c ts S x

-- Clause k is the least for the call `f(ts)` that accepts it.
abbrev pub IsLeast : Program → List ℕ → List Tree → (VarName → Option Tree) → ℕ → Type 0
IsLeast P f ts S k =
    ((c : Clause) × IsClause P k c × IsFor f ts c × Accepts c ts S)
    × ((j : ℕ) (c : Clause) → j < k → IsClause P j c → IsFor f ts c → ¬ Accepts c ts S)

-- What the call `f(ts)` answers as step n, with no clause chosen.
pub data CallAnswers (n : ℕ) (P : Program) (f : List ℕ) (ts : List Tree) (S : VarName → Option Tree) : Answer → Type 0 where
  -- the least clause that accepts it is taken
  by_least : {k : ℕ} {e : Effect} → IsLeast P f ts S k → HasEffect P (call f ts) (by_clause k) n S e
      → CallAnswers n P f ts S (proposes (by_clause k) e)
  -- else it waits, where a clause waits
  waits : {x : VarName} → ¬ SomeAccepts P f ts S → SomeWaitsFor P f ts S x → CallAnswers n P f ts S (refused Waits)
  -- else no clause matches
  no_match : ¬ SomeAccepts P f ts S → ((x : VarName) → ¬ SomeWaitsFor P f ts S x) → CallAnswers n P f ts S (refused NoMatch)

-- What the call `f(ts)` answers as step n, with clause k chosen.
pub data ChoiceAnswers (n : ℕ) (P : Program) (f : List ℕ) (ts : List Tree) (k : ℕ) (S : VarName → Option Tree) : Answer → Type 0 where
  -- no clause k is for the call
  no_clause : ((c : Clause) → IsClause P k c → ¬ IsFor f ts c) → ChoiceAnswers n P f ts k S (refused NoClause)
  -- clause k accepts it
  by_choice : {e : Effect} → HasEffect P (call f ts) (by_clause k) n S e → ChoiceAnswers n P f ts k S (proposes (by_clause k) e)
  -- clause k waits
  waits : {c : Clause} {x : VarName} → IsClause P k c → IsFor f ts c → WaitsFor c ts S x → ChoiceAnswers n P f ts k S (refused Waits)
  -- clause k refuses it
  no_match : {c : Clause} → IsClause P k c → IsFor f ts c → Refuses c ts S → ChoiceAnswers n P f ts k S (refused NoMatch)

-- What the unification `l = r` answers. It makes no variables, so the number of the step does not matter.
pub data UnificationAnswers (P : Program) (l r : Tree) (S : VarName → Option Tree) : Answer → Type 0 where
  -- the two sides are made equal
  solves : {e : Effect} → HasEffect P (unify l r) unified no_step S e → UnificationAnswers P l r S (proposes unified e)
  -- two values clash
  clashes : Clashes S l r → UnificationAnswers P l r S (refused Clash)
  -- a variable would be bound to what reaches it
  cycles : Cycles S l r → UnificationAnswers P l r S (refused Cycle)

-- What the assignment of b to t answers. It makes no variables either.
pub data AssignmentAnswers (P : Program) (t : Tree) (b : Expression) (S : VarName → Option Tree) : Answer → Type 0 where
  -- its expression waits for variables
  waits : (xs : Variables) → HasValue S b (waits_for xs) → AssignmentAnswers P t b S (refused Waits)
  -- its expression has no value
  has_no_value : HasValue S b bad → AssignmentAnswers P t b S (refused Arithmetic)
  -- its left side clashes with the value
  clashes : (v : ℤ) → HasValue S b (number v) → Clashes S t (integer v) → AssignmentAnswers P t b S (refused Clash)
  -- its left side is made equal to the value
  assigns : {e : Effect} → HasEffect P (assign t b) assigned no_step S e → AssignmentAnswers P t b S (proposes assigned e)

-- AttemptsAs n P S goal choice a: in the store S, an attempt as step n at the goal, if there is one, with a clause chosen or not, answers a.
-- A stream goal is none for an attempt, and only a call has clauses to choose.
abbrev pub AttemptsAs : ℕ → Program → (VarName → Option Tree) → Option Goal → Option ℕ → Answer → Type 0
AttemptsAs n P S None choice a = a ≡ refused NoGoal
AttemptsAs n P S (Some (stream k s)) choice a = a ≡ refused NoGoal
AttemptsAs n P S (Some (call f ts)) None a = CallAnswers n P f ts S a
AttemptsAs n P S (Some (call f ts)) (Some k) a = ChoiceAnswers n P f ts k S a
AttemptsAs n P S (Some (unify l r)) None a = UnificationAnswers P l r S a
AttemptsAs n P S (Some (unify l r)) (Some k) a = a ≡ refused NoClause
AttemptsAs n P S (Some (assign t b)) None a = AssignmentAnswers P t b S a
AttemptsAs n P S (Some (assign t b)) (Some k) a = a ≡ refused NoClause

-- Attempts P S goal choice a: an attempt under any number answers a.
abbrev pub Attempts : Program → (VarName → Option Tree) → Option Goal → Option ℕ → Answer → Type 0
Attempts P S g choice a = AttemptsAs no_step P S g choice a
