use Rattle.ghc_fire.proofs.Words.{◌≡◌, ◌+◌, ◌++◌, drop, length, filter, is_none, called}
use Rattle.ghc_fire.proofs.called.call_variables.Given as goal

abbrev pub invariant-loop-name : goal.invariant-loop-name
invariant-loop-name l =
    (l.variables.items ++ called (l.fresh + 1) (drop l.name-index l.named) ≡ called 1 l.named)
    × (l.fresh + length (filter is_none (drop l.name-index l.named)) ≡ length (filter is_none l.named))
