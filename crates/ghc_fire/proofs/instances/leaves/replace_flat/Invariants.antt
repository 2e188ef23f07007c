use Rattle.ghc_fire.proofs.Words.{◌≡◌, map, take, replace, replacement}
use Rattle.ghc_fire.proofs.instances.leaves.replace_flat.Given as goal

abbrev pub invariant-loop-argument : goal.invariant-loop-argument
invariant-loop-argument l = l.replaced.items ≡ map (replace (replacement l.by)) (take l.argument-index l.arguments)
