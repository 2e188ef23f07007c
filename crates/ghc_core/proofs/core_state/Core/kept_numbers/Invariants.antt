use Rattle.ghc_core.proofs.Words.{◌≡◌, ◌++◌, drop, map, Record, held_in, rank}
use Rattle.ghc_core.proofs.core_state.Core.kept_numbers.Given as goal

abbrev pub invariant-loop-place : goal.invariant-loop-place
invariant-loop-place l =
    let slots = l.self-inside.records.slots in
    l.kept.items ++ map (λ (r : Record). r.number) (drop (rank slots l.place) (held_in slots)) ≡ map (λ (r : Record). r.number) (held_in slots)
