use Rattle.ghc_pool.proofs.Words.{◌≡◌, vec_len, all_parts, AreFresh}
use Rattle.ghc_pool.proofs.rounds.opening.new_deques.Given as goal

abbrev pub invariant-loop-made : goal.invariant-loop-made
invariant-loop-made l = AreFresh all_parts l.owners.items × (vec_len l.owners ≡ l.made)
