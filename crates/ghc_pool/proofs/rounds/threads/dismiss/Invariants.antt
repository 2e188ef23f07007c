use Rattle.std.specs.Prelude.{◌*◌}
use Rattle.ghc_pool.proofs.Words.{◌≡◌, ◌≤◌, ◌+◌, ◌++◌, vec_capacity, vec_len, over, submits_of, AreCounted, workers_in, passes_in}
use Rattle.ghc_pool.proofs.rounds.threads.dismiss.Given as goal

abbrev pub invariant-loop-moved : goal.invariant-loop-moved
invariant-loop-moved g l =
    (l.workers.items ++ workers_in l.jobs.items ≡ workers_in l.initial.jobs.items) × (l.passes.items ++ passes_in l.jobs.items ≡ passes_in l.initial.jobs.items) × AreCounted l.jobs.items
    × (l.rest.parts ≡ l.initial.rest.parts + l.moved) × (l.rest.amount ≡ l.initial.rest.amount + (over submits_of l.workers.items + l.unused)) × (l.unused ≤ 32 * l.moved) × (vec_len l.jobs + l.moved ≡ vec_len l.initial.jobs)
    × (vec_len l.workers ≡ l.moved) × (vec_len l.passes ≡ l.moved) × (vec_len l.initial.jobs ≤ vec_capacity l.workers) × (vec_len l.initial.jobs ≤ vec_capacity l.passes)
