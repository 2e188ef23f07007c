use Rattle.ghc_fire.proofs.Words.{◌≡◌, map, take, replace, renamed}
use Rattle.ghc_fire.proofs.instances.bodies.body_list.Given as goal

abbrev pub invariant-loop-argument : goal.invariant-loop-argument
invariant-loop-argument l = l.made.items ≡ map (replace (renamed l.head_variables l.theta l.number)) (take l.argument-index l.arguments)
