use Rattle.ghc_core.proofs.Words.{◌≡◌, ◌≤◌, length, map, take, vec_len, vec_capacity, event_of, reply_of, MeetsEach}
use Rattle.ghc_core.proofs.world.World.play.Given as goal

abbrev pub invariant-loop-event : goal.invariant-loop-event
invariant-loop-event l =
    (length l.events ≤ vec_capacity l.replies) × (vec_len l.replies ≡ l.event-index)
    × MeetsEach l.initial.self (map event_of (take l.event-index l.events)) (map reply_of l.replies.items) l.self
