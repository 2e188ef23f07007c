use Rattle.ghc_pool.proofs.Words.{◌≡◌, ◌+◌, ℕ, vec_len, GoalName, works, over, put_of, got_of, stolen_of, own_deques, all_victims, AreReady, HaveParts, HaveGivenBack}
use Rattle.ghc_pool.proofs.rounds.gathering.gather.Given as goal

abbrev pub invariant-loop-from : goal.invariant-loop-from
invariant-loop-from l =
    AreReady l.workers.items × (own_deques l.workers.items ≡ own_deques l.initial.workers.items) × HaveGivenBack l.from (own_deques l.initial.workers.items) (all_victims l.workers.items)
    × ((k : ℕ) → HaveParts k l.initial.workers.items → HaveParts (k + l.from) l.workers.items) × (works l.workers.items ≡ works l.initial.workers.items)
    × ((h : GoalName → ℕ) → over (put_of h) l.workers.items ≡ over (put_of h) l.initial.workers.items)
    × ((h : GoalName → ℕ) → over (got_of h) l.workers.items + over (stolen_of h) l.workers.items ≡ over (got_of h) l.initial.workers.items + over (stolen_of h) l.initial.workers.items)
    × (vec_len l.workers ≡ vec_len l.initial.workers)
