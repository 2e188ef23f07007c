use Rattle.ghc_pool.proofs.Words.{◌≡◌, ◌+◌, ◌-◌, ◌++◌, vec_len, all_parts, AreFresh, AreHandfuls, AreNew, deques_of, own_deques}
use Rattle.ghc_pool.proofs.rounds.starting.new_workers.Given as goal

abbrev pub invariant-loop-made : goal.invariant-loop-made
invariant-loop-made l =
    AreFresh (all_parts - l.made) l.owners.items × (vec_len l.owners ≡ l.count) × AreHandfuls (deques_of l.owners.items) l.hands.items × (vec_len l.hands ≡ l.made)

abbrev pub invariant-loop-moved : goal.invariant-loop-moved
invariant-loop-moved l =
    AreFresh (all_parts - l.count) l.owners.items × (vec_len l.owners + l.moved ≡ l.count) × AreHandfuls (deques_of l.initial.owners.items) l.hands.items × (own_deques l.workers.items ++ deques_of l.owners.items ≡ deques_of l.initial.owners.items)
    × AreNew (all_parts - l.count) (deques_of l.initial.owners.items) l.workers.items × (vec_len l.workers ≡ l.moved)
