use Rattle.ghc_pool.proofs.Words.{◌≡◌, ◌≤◌, ◌+◌, ◌++◌, vec_capacity, vec_len, works}
use Rattle.ghc_pool.proofs.rounds.round.take_apart.Given as goal

abbrev pub invariant-loop-moved : goal.invariant-loop-moved
invariant-loop-moved l =
    (l.done.items ++ works l.workers.items ≡ works l.initial.workers.items) × (vec_len l.workers + l.moved ≡ vec_len l.initial.workers) × (vec_len l.done ≡ l.moved) × (vec_len l.initial.workers ≤ vec_capacity l.done)
