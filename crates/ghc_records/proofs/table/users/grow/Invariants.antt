use Rattle.ghc_records.proofs.Words.{◌≡◌, ◌≤◌, ◌+◌, vec_len, vec_capacity, HasGrown}
use Rattle.ghc_records.proofs.table.users.grow.Given as goal

abbrev pub invariant-loop : goal.invariant-loop
invariant-loop l =
    HasGrown l.initial.sets.items l.sets.items × (vec_len l.sets ≡ vec_len l.initial.sets + l.counter) × (vec_len l.initial.sets + l.more ≤ vec_capacity l.sets)
