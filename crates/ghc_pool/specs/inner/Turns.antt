-- What a worker has in hand between its turns.
use Rattle.std.specs.Prelude.{◌≡◌, ◌≤◌, ◌++◌, Bool, true, List, [], ◌∷◌, length, Option, None, Some, Result}
use Rattle.ghc_term.specs.declared.goal_name.GoalName.{GoalName}
use Rattle.ghc_term.specs.declared.fault.Fault.{Fault}
use Rattle.ghc_core.specs.World.{Proposal}
use Rattle.ghc_core.specs.Excerpt as core
use Rattle.ghc_pool.specs.declared.rounds.hand.Apart.{Apart}
use Rattle.ghc_pool.specs.declared.rounds.hand.Apart.TheVariants.{Excerpt, Attempt}
use Rattle.ghc_pool.specs.declared.rounds.hand.InHand.{InHand}
use Rattle.ghc_pool.specs.declared.rounds.working.Job.{Job}
use Rattle.ghc_pool.specs.inner.Workers.{HasRoomToAnswer}

-- the names in hand
abbrev pub names_in : List InHand → List GoalName
names_in [] = []
names_in (x ∷ xs) = x.name ∷ names_in xs

-- what the attempt answered, if it was made
abbrev pub attempted : Apart → Option (Result Proposal Fault)
attempted (Excerpt e) = None
attempted (Attempt a) = Some a

module _ (excerpts : GoalName → core.Excerpt → Type 0) (attempts : GoalName → Result Proposal Fault → Type 0) where
  -- What of the name is made apart is an excerpt of its goal, or what an attempt at it answered.
  abbrev pub IsApart : GoalName → Apart → Type 0
  IsApart g (Excerpt e) = excerpts g e
  IsApart g (Attempt a) = attempts g a

  -- Each is so.
  abbrev pub AreApart : List InHand → Type 0
  AreApart [] = Unit {0}
  AreApart (x ∷ xs) = IsApart x.name x.apart × AreApart xs

  -- The name came into the hand, with what of it is made apart.
  abbrev pub HasAdded : GoalName → List InHand → List InHand → Type 0
  HasAdded g old new = (x : InHand) × (new ≡ old ++ x ∷ []) × (x.name ≡ g) × IsApart x.name x.apart

  -- The worker can decide each name that it has in hand: where steps are taken it has a permit for each, and there is room for the answers.
  pub record CanDecide {P L : Type 0} (takes : Bool) (hand : List InHand) (j : Job P L) : Type 0 where
    pub permit : takes ≡ true → length hand ≤ j.spare
    pub room : HasRoomToAnswer (length hand) j.worker
    pub apart : AreApart hand
