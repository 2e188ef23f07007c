use Rattle.ghc_pool.proofs.Words.{◌≡◌, ◌+◌, ◌++◌, ℕ, List, vec_capacity, vec_len, Global, RowsId, AreStarting, AreJobs, workers_in}
use Rattle.ghc_pool.proofs.rounds.threads.hire.Given as goal

abbrev pub invariant-loop-number : goal.invariant-loop-number
invariant-loop-number g l =
    (workers_in l.jobs.items ++ l.workers.items ≡ l.initial.workers.items)
    × ((done : List g.row.P.Denot) × (done ++ l.passes.items ≡ l.initial.passes.items)
    × ((k : ℕ) (ds : List (RowsId × Global)) → AreStarting k ds l.initial.workers.items
    → AreJobs (g.C.Craft.fed l.craft) (g.C.Craft.asks l.craft) (g.C.Craft.tells l.craft) k ds done l.jobs.items × AreStarting k ds l.workers.items))
    × (vec_len l.workers + l.number ≡ vec_len l.initial.workers) × (vec_len l.passes ≡ vec_len l.workers) × (vec_len l.jobs ≡ l.number) × (l.rest.parts + l.number ≡ vec_len l.initial.workers + 1) × (l.rest.amount ≡ 0)
    × (vec_capacity l.jobs ≡ vec_capacity l.initial.jobs) × (vec_capacity l.passes ≡ vec_capacity l.initial.passes)
