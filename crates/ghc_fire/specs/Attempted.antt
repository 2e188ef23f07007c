-- What an attempt at a goal of a state proposes.
use Rattle.std.specs.Prelude.{◌≡◌, ℕ, Option, Some}
use Rattle.std.specs.FinMap as finite
use Rattle.ghc_term.specs.declared.goal_name.GoalName.{GoalName}
use Rattle.ghc_term.specs.Store.{StoreValue, value_at}
use Rattle.ghc_flat.specs.Clause.{Program}
use Rattle.ghc_fire.specs.Goals.{Goals}
use Rattle.ghc_fire.specs.Effect.{no_step}
use Rattle.ghc_fire.specs.Attempt.{Answer, proposes, AttemptsAs, Attempts}
use Rattle.ghc_fire.specs.Proposal.{Proposal}
use Rattle.ghc_fire.specs.Firing.{Firing, fired_as}

-- Among these goals and in this store, an attempt at the goal named g, with a clause chosen or not, answers a.
abbrev pub AttemptsAt : Program → Goals → StoreValue → GoalName → Option ℕ → Answer → Type 0
AttemptsAt P G s g choice a = Attempts P (value_at s) (finite.get G g) choice a

-- The proposal is what an attempt as step n at the goal named g proposes.
pub record IsProposedAs (n : ℕ) (P : Program) (G : Goals) (s : StoreValue) (g : GoalName) (choice : Option ℕ) (p : Proposal) : Type 0 where
  pub named : p.goal ≡ g
  pub there : finite.get G g ≡ Some p.consumed
  pub proposed : AttemptsAs n P (value_at s) (finite.get G g) choice (proposes p.act p.effect)

-- The proposal is what an attempt at the goal named g proposes.
abbrev pub IsProposed : Program → Goals → StoreValue → GoalName → Option ℕ → Proposal → Type 0
IsProposed P G s g choice p = IsProposedAs no_step P G s g choice p

-- The step fired is what an attempt as step n at the goal named g proposes.
abbrev pub IsFiredAs : ℕ → Program → Goals → StoreValue → GoalName → Option ℕ → Firing → Type 0
IsFiredAs n P G s g choice f = (p : Proposal) × IsProposedAs n P G s g choice p × (f ≡ fired_as n p)
