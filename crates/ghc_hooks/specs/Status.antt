-- The status of a goal.
use Rattle.std.specs.Prelude.{◌≡◌, ◌≢◌, Option, Some, None, true, false}
use Rattle.ghc_term.specs.declared.var_name.VarName.{VarName}
use Rattle.ghc_term.specs.Tree.{Tree}
use Rattle.ghc_term.specs.Goal.{Goal, call, unify, assign, stream}
use Rattle.ghc_flat.specs.Clause.{Program}
use Rattle.ghc_flat.specs.Flat.{is_stream}
use Rattle.ghc_flat.specs.Variables.{leaf_variables}
use Rattle.ghc_term.specs.Sets.{Variables, IsSetOf}
use Rattle.ghc_match.specs.Position.{EndsIn}
use Rattle.ghc_match.specs.Value.{Wants}
use Rattle.ghc_term.specs.declared.fault.Fault.{Fault}
use Rattle.ghc_term.specs.declared.fault.Fault.TheVariants.{Waits}
use Rattle.ghc_fire.specs.declared.act.Act.{Act}
use Rattle.ghc_fire.specs.Effect.{Effect}
use Rattle.ghc_fire.specs.Attempt.{proposes, refused, SomeWaitsFor, Attempts}

-- A status: ready, waiting for a set of variables, failed for a cause, or a stream.
pub data Status : Type 0 where
  ready : Status
  waiting : Variables → Status
  failed : Fault → Status
  streaming : Status

-- A goal of this status does not wait.
abbrev pub IsNoWait : Status → Type 0
IsNoWait s = (xs : Variables) → s ≢ waiting xs

-- The variables for which a goal waits where an attempt at it waits: for a call those of all its clauses that wait, for an assignment the unbound ends of its expression.
abbrev pub Awaits : Program → (VarName → Option Tree) → Goal → VarName → Type 0
Awaits P S (call f ts) x = SomeWaitsFor P f ts S x
Awaits P S (unify l r) x = ⊥
Awaits P S (assign t a) x = Wants (EndsIn S) (leaf_variables a) x
Awaits P S (stream k s) x = ⊥

-- HasStatus P S g s: in the store S, tried from scratch, the goal g has the status s.
pub data HasStatus (P : Program) (S : VarName → Option Tree) : Goal → Status → Type 0 where
  is_ready : {g : Goal} (act : Act) (e : Effect) → Attempts P S (Some g) None (proposes act e) → HasStatus P S g ready
  is_waiting : {g : Goal} {xs : Variables} → Attempts P S (Some g) None (refused Waits) → IsSetOf xs (Awaits P S g) → HasStatus P S g (waiting xs)
  is_failed : {g : Goal} {f : Fault} → is_stream g ≡ false → Attempts P S (Some g) None (refused f) → f ≢ Waits → HasStatus P S g (failed f)
  is_stream_goal : {g : Goal} → is_stream g ≡ true → HasStatus P S g streaming
