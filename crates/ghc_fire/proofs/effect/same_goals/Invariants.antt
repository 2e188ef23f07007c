use Rattle.std.proofs.Common.{◌≡◌, take}
use Rattle.ghc_fire.proofs.effect.same_goals.Given as goal

abbrev pub invariant-loop-index : goal.invariant-loop-index
invariant-loop-index l = take l.index l.lefts ≡ take l.index l.rights
