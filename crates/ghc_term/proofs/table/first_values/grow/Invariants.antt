use Rattle.ghc_term.proofs.Words.{◌+◌, ◌≤◌, vec_len, vec_capacity, HasSameValues}
use Rattle.ghc_term.proofs.table.first_values.grow.Given as goal

abbrev pub invariant-loop : goal.invariant-loop
invariant-loop g l = HasSameValues l.fn.firsts.items l.firsts.items × (vec_len l.firsts + 16 ≤ vec_capacity l.firsts + l.counter)
