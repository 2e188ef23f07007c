use Rattle.ghc_pool.proofs.Words.{◌≡◌, ◌+◌, ℕ, List, vec_len, GoalName, works, over, in_of, out_of, submits_of, IsSpent, AreJudged, AreDrainedTo, AreTold, FirstBegins}
use Rattle.ghc_pool.proofs.rounds.draining.drain_all.Given as goal

abbrev pub invariant-loop-index : goal.invariant-loop-index
invariant-loop-index g l =
    AreDrainedTo l.index l.workers.items × (vec_len l.workers ≡ vec_len l.initial.workers) × (vec_len l.passes ≡ vec_len l.initial.passes)
    × ((h : GoalName → ℕ) → over (in_of h) l.workers.items + over (out_of h) l.initial.workers.items ≡ over (in_of h) l.initial.workers.items + over (out_of h) l.workers.items)
    × AreJudged (g.C.Craft.fed l.craft) (g.C.Craft.asks l.craft) (IsSpent (g.C.Craft.takes l.craft) l.permits.spare l.permits.budget.left) l.stop (works l.workers.items)
    × ((starts : List g.row.P.Denot) → AreTold (g.C.Craft.tells l.craft) starts (works l.initial.workers.items) l.initial.passes.items → AreTold (g.C.Craft.tells l.craft) starts (works l.workers.items) l.passes.items)
    × ((names : List GoalName) → FirstBegins names (works l.initial.workers.items) → FirstBegins names (works l.workers.items)) × (l.permits.share.parts ≡ l.initial.permits.share.parts)
    × (l.permits.share.amount + (l.initial.permits.spare + over submits_of l.initial.workers.items) ≡ l.initial.permits.share.amount + (l.permits.spare + over submits_of l.workers.items))
