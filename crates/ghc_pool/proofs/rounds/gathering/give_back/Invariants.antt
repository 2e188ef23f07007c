use Rattle.ghc_pool.proofs.Words.{◌≡◌, ◌+◌, ◌++◌, ℕ, List, length, Global, RowsId, GoalName, works, AreVictims, deques, stolen, over, put_of, got_of, own_deques, all_victims, AreReady, HaveParts, HavePartsFrom}
use Rattle.ghc_pool.proofs.rounds.gathering.give_back.Given as goal

abbrev pub invariant-loop-victim : goal.invariant-loop-victim
invariant-loop-victim l =
    AreReady l.workers.items × AreVictims l.victims.items × (own_deques l.workers.items ≡ own_deques l.initial.workers.items) × (all_victims l.workers.items ≡ all_victims l.initial.workers.items)
    × ((more : List (RowsId × Global)) × (own_deques l.workers.items ≡ deques l.victims.items ++ more))
    × ((k : ℕ) → HaveParts k l.initial.workers.items → HavePartsFrom (length l.victims.items) k l.workers.items)
    × (works l.workers.items ≡ works l.initial.workers.items) × ((h : GoalName → ℕ) → over (put_of h) l.workers.items ≡ over (put_of h) l.initial.workers.items)
    × ((h : GoalName → ℕ) → over (got_of h) l.workers.items + stolen h l.victims.items ≡ over (got_of h) l.initial.workers.items + stolen h l.initial.victims.items)

abbrev pub decreases-loop-victim : goal.decreases-loop-victim
decreases-loop-victim l = goal.left-loop-victim l
