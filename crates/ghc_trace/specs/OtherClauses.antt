-- The other clauses by which a kept step could have been.
use Rattle.std.specs.Prelude.{◌≡◌, ◌≢◌, ◌⊎◌, ◌↔◌, ℕ, List, Option, Some, None}
use Rattle.std.specs.List.Sorted.{IsStrictlyIncreasing}
use Rattle.ghc_term.specs.declared.var_name.VarName.{VarName}
use Rattle.ghc_term.specs.declared.goal_name.GoalName.{GoalName}
use Rattle.ghc_term.specs.Tree.{Tree}
use Rattle.ghc_term.specs.Goal.{Goal, call, unify, assign, stream}
use Rattle.ghc_term.specs.Lists.{In}
use Rattle.ghc_term.specs.Store.{value_at}
use Rattle.ghc_flat.specs.Clause.{Clause, Program, IsClause, IsFor}
use Rattle.ghc_match.specs.Match.{Accepts}
use Rattle.ghc_fire.specs.declared.act.Act.TheVariants.{ByClause as by_clause}
use Rattle.ghc_records.specs.Record.{State, Record}
use Rattle.ghc_depend.specs.Deletion.{IsWithoutSteps}
use Rattle.ghc_depend.specs.Kept.{IsSplitAt}
use Rattle.ghc_core.specs.World.{Hands, World, HasRoom}
use Rattle.ghc_core.specs.Events.{roll, undone}
use Rattle.ghc_core.specs.Answers.{Obeys}
use Rattle.ghc_core.specs.Proposes.{IsStepOf}
use Rattle.ghc_core.specs.Legal.{IsReachable}

-- Clause k says yes to the goal in the store S: the goal is a call, for which the clause is, and the clause accepts it.
abbrev pub SaysYesTo : Program → (VarName → Option Tree) → Option Goal → ℕ → Type 0
SaysYesTo P S None k = ⊥
SaysYesTo P S (Some (call f ts)) k = (c : Clause) × IsClause P k c × IsFor f ts c × Accepts c ts S
SaysYesTo P S (Some (unify l r)) k = ⊥
SaysYesTo P S (Some (assign t a)) k = ⊥
SaysYesTo P S (Some (stream n s)) k = ⊥

-- The state t is that of the world without the step r and its consequences.
abbrev pub IsStateWithout : World → Record → State → Type 0
IsStateWithout w r t = (gone left : List Record) × IsSplitAt w.kept r gone left × IsWithoutSteps gone w.state t

-- The step r could have been by clause k: that is not its clause, and says yes to the goal that it consumed, in the state without it and its consequences.
abbrev pub CouldBe : World → Record → ℕ → Type 0
CouldBe w r k = (r.act ≢ by_clause k) × ((t : State) × IsStateWithout w r t × SaysYesTo w.opening.program (value_at t.store) r.consumed k)

-- These are the other clauses by which the step r could have been, and their numbers rise.
pub record AreOtherClauses (w : World) (r : Record) (ks : List ℕ) : Type 0 where
  pub «exactly» : (k : ℕ) → In k ks ↔ CouldBe w r k
  pub rising : IsStrictlyIncreasing ks

-- Roll back a kept step of a reachable world, and let a new step have room. Then a step of its goal by clause k is taken exactly where k is its own clause, or another one by which it could have been.
abbrev pub OtherClausesAreTaken : Type 0
OtherClausesAreTaken =
    (w v : World) (hands : Hands) (r : Record) (g : GoalName) (k : ℕ) (ns : List ℕ) → IsReachable w hands → In r w.kept → r.goal ≡ Some g
    → Obeys ⊥ w (roll r.number) (undone ns) v → HasRoom v → ((s : Record) × IsStepOf v g (Some k) s) ↔ ((r.act ≡ by_clause k) ⊎ CouldBe w r k)
