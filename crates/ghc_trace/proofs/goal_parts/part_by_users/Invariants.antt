use Rattle.ghc_trace.proofs.Words.{ℕ, length, option_copied, Program, Query, State, Replays, held_in}
use Rattle.ghc_flat.specs.Flat.{IsQuery}
use Rattle.ghc_trace.proofs.PartUsers.{AreAhead, IsPartSoFar, left_from}
use Rattle.ghc_trace.proofs.goal_parts.part_by_users.Given as goal

abbrev pub invariant-loop-place : goal.invariant-loop-place
invariant-loop-place l =
    (far : ℕ) × AreAhead l.records.slots (option_copied l.taker) far l.steps.keys l.ahead.keys
    × ((P : Program) (query : Query) (t : State) → IsQuery P query → Replays P query (held_in l.records.slots) t → IsPartSoFar l.records.slots l.goal far l.steps.keys l.asks.items)

abbrev pub decreases-loop-place : goal.decreases-loop-place
decreases-loop-place l = left_from (length l.records.slots) l.ahead.keys
