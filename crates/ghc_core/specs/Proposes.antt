-- What is proposed, committed and noted. In all events, Starved says that memory was refused in this call.
use Rattle.std.specs.Prelude.{◌≡◌, ◌⊎◌, true, false, ℕ, Option, Some, None}
use Rattle.std.specs.FinMap as finite
use Rattle.ghc_term.specs.declared.goal_name.GoalName.{GoalName}
use Rattle.ghc_term.specs.Goal.{Goal}
use Rattle.ghc_term.specs.Store.{value_at}
use Rattle.ghc_flat.specs.Flat.{is_stream}
use Rattle.ghc_term.specs.declared.fault.Fault.{Fault}
use Rattle.ghc_fire.specs.declared.act.Act.{Act}
use Rattle.ghc_fire.specs.declared.act.Act.TheVariants.{ByClause as by_clause, Unified as unified, Assigned as assigned, Given as given, Closed as closed, Asked as asked}
use Rattle.ghc_fire.specs.Effect.{HasEffect, no_step}
use Rattle.ghc_fire.specs.Proposal.{under}
use Rattle.ghc_fire.specs.Attempt as attempt
use Rattle.ghc_fire.specs.Firing.{Firing}
use Rattle.ghc_fire.specs.Attempted.{IsProposed, IsFiredAs}
use Rattle.ghc_records.specs.Record.{Record}
use Rattle.ghc_hooks.specs.Status.{Status, HasStatus}
use Rattle.ghc_core.specs.World.{Proposal, World, IsFull, IsNextStep}
use Rattle.ghc_core.specs.Refusals.{IsToldWhere, OrElse}
use Rattle.ghc_core.specs.Events.{Reply, noted, refused}

-- An attempt at the goal named g answers a, in the present state.
abbrev pub AttemptAnswers : World → GoalName → Option ℕ → attempt.Answer → Type 0
AttemptAnswers w g choice a = attempt.Attempts w.opening.program (value_at w.state.store) (finite.get w.state.goals g) choice a

-- The proposal is what an attempt at the goal named g proposes, in the present state.
abbrev pub IsProposedIn : World → GoalName → Option ℕ → Proposal → Type 0
IsProposedIn w g choice p = IsProposed w.opening.program w.state.goals w.state.store g choice p

-- The step fired is what an attempt at the goal named g, as the next step, proposes in the present state.
abbrev pub IsFiredNext : World → GoalName → Option ℕ → Firing → Type 0
IsFiredNext w g choice f = IsFiredAs w.next w.opening.program w.state.goals w.state.store g choice f

-- The act is one of a proposal.
abbrev pub IsReduction : Act → Type 0
IsReduction (by_clause _) = Unit {0}
IsReduction unified = Unit {0}
IsReduction assigned = Unit {0}
IsReduction (given _) = ⊥
IsReduction closed = ⊥
IsReduction (asked _) = ⊥

-- The proposal still holds: its goal is there, and its effect now is the one proposed.
abbrev pub StillHolds : World → Proposal → Type 0
StillHolds w p =
    (b : Goal) × IsReduction p.act × (finite.get w.state.goals p.goal ≡ Some b)
    × HasEffect w.opening.program b p.act no_step (value_at w.state.store) p.effect

-- In some world of the same opening, an attempt at its goal proposed this.
abbrev pub WasProposed : World → Proposal → Type 0
WasProposed w p = (v : World) × (choice : Option ℕ) × (v.opening ≡ w.opening) × IsProposedIn v p.goal choice p

-- The proposal holds as the next step: its goal is there, and its effect under the next number is the one proposed, under that number.
abbrev pub HoldsAsNext : World → Proposal → Type 0
HoldsAsNext w p =
    (b : Goal) × IsReduction p.act × (finite.get w.state.goals p.goal ≡ Some b)
    × HasEffect w.opening.program b p.act w.next (value_at w.state.store) (under w.next p.effect)

-- Why a commit of the proposal is refused: it does not hold any more, or else the world is full.
pub record CommitFails (w : World) (p : Proposal) (f : Fault) : Type 0 where
  pub first : OrElse (IsToldWhere Fault.Stale (¬ StillHolds w p)) (IsToldWhere Fault.Full (IsFull w)) f

-- The record is that of the proposal as the next step of the world.
abbrev pub IsCommitOf : World → Proposal → Record → Type 0
IsCommitOf w p r = StillHolds w p × IsNextStep w r × (r.goal ≡ Some p.goal) × (r.act ≡ p.act)

-- The record is that of the step that an attempt at the goal named g, with a clause chosen or not, proposes, as the next step of the world.
abbrev pub IsStepOf : World → GoalName → Option ℕ → Record → Type 0
IsStepOf w g choice r = (p : Proposal) × (p.goal ≡ g) × AttemptAnswers w g choice (attempt.proposes p.act p.effect) × IsCommitOf w p r

-- An attempt at the goal named g proposes a step, and the world is full.
abbrev pub ProposesInFull : World → GoalName → Option ℕ → Type 0
ProposesInFull w g choice = (p : Proposal) × (p.goal ≡ g) × AttemptAnswers w g choice (attempt.proposes p.act p.effect) × IsFull w

-- Why no step of the goal is taken: the attempt is refused, or else the world is full.
pub record StepFails (w : World) (g : GoalName) (choice : Option ℕ) (f : Fault) : Type 0 where
  pub first : OrElse (λ e. AttemptAnswers w g choice (attempt.refused e)) (IsToldWhere Fault.Full (ProposesInFull w g choice)) f

-- There is no goal of this name to try: none at all, or a stream goal.
abbrev pub IsNoCandidate : World → GoalName → Type 0
IsNoCandidate w g = (finite.get w.state.goals g ≡ None) ⊎ ((b : Goal) × (finite.get w.state.goals g ≡ Some b) × (is_stream b ≡ true))

-- The goal named g is there and no stream goal, and a try of it has this status.
abbrev pub IsStatusOf : World → GoalName → Status → Type 0
IsStatusOf w g s = (b : Goal) × (finite.get w.state.goals g ≡ Some b) × (is_stream b ≡ false) × HasStatus w.opening.program (value_at w.state.store) b s

-- Notes Starved w g reply: the goal named g is tried, and the reply is its status; the world stays as it is.
pub data Notes (Starved : Type 0) (w : World) (g : GoalName) : Reply → Type 0 where
  tells : {s : Status} → IsStatusOf w g s → Notes Starved w g (noted g s)
  no_goal : IsNoCandidate w g → Notes Starved w g (refused Fault.NoGoal)
  no_memory : Starved → Notes Starved w g (refused Fault.Memory)
