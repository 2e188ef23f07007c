use Rattle.ghc_fire.proofs.Words.{◌≡◌, map, take, renumbered}
use Rattle.ghc_fire.proofs.called.number_variables.Given as goal

abbrev pub invariant-loop-x : goal.invariant-loop-x
invariant-loop-x l = l.numbered.items ≡ map (renumbered l.number) (take l.x-index l.xs)
