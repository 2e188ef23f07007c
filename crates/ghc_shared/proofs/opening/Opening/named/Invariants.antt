use Rattle.ghc_shared.proofs.Words.{◌≡◌, ◌+◌, [], ◌≤◌, vec_len, vec_capacity, opening_log, keeper, newcomers}
use Rattle.ghc_shared.proofs.opening.Opening.named.Given as goal

abbrev pub invariant-loop-number : goal.invariant-loop-number
invariant-loop-number g l = (l.seat.table_id ≡ g.N.Naming.table) × (l.seat.me ≡ (keeper (opening_log (g.C.Growing.history l.value)), [])) × (l.rest.parts + l.number ≡ l.passes + 1) × (l.rest.amount ≡ 0) × (l.made.items ≡ newcomers (g.C.Growing.history l.value) l.number) × (vec_len l.made ≡ l.number) × (l.passes ≤ vec_capacity l.made)
