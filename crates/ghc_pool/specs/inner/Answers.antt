-- Answers to names that a round took.
use Rattle.std.specs.Prelude.{ℕ, Bool, true, false, List, Option, Some, None}
use Rattle.ghc_term.specs.declared.goal_name.GoalName.{GoalName}
use Rattle.ghc_pool.specs.declared.answer.Answer.{Answer}
use Rattle.ghc_pool.specs.declared.answer.Answer.TheVariants.{Submitted, Noted, Starved}
use Rattle.ghc_pool.specs.declared.answer.RoundStop.{RoundStop}
use Rattle.ghc_pool.specs.declared.answer.RoundStop.TheVariants.{Memory, Limit, Full, Spied, Clash}

-- a name that was taken, with its answer
abbrev pub Taken : Type 0
Taken = GoalName × Answer

-- how many submits the answer tells of
abbrev pub submits_in : Answer → ℕ
submits_in (Submitted receipt) = 1
submits_in (Noted receipt) = 0
submits_in Starved = 0

-- one if the condition holds, else zero
abbrev pub one_if : Bool → ℕ
one_if true = 1
one_if false = 0

-- The reason to stop, if there is one, is what one of these names asks for, or memory; where it is not memory, memory was refused for none of them.
abbrev pub IsReason : (List Taken → Type 0) → (List Taken → RoundStop → Type 0) → Option RoundStop → List Taken → Type 0
IsReason fed asks None taken = fed taken
IsReason fed asks (Some Memory) taken = Unit {0}
IsReason fed asks (Some Limit) taken = ⊥
IsReason fed asks (Some Full) taken = fed taken × asks taken RoundStop.Full
IsReason fed asks (Some (Spied g)) taken = fed taken × asks taken (RoundStop.Spied g)
IsReason fed asks (Some (Clash g)) taken = fed taken × asks taken (RoundStop.Clash g)
