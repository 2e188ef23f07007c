use Rattle.ghc_hooks.proofs.Words.{arith}
use Rattle.std.specs.FinMap as finite
use Rattle.ghc_hooks.proofs.Under.{none_under}
use Rattle.ghc_hooks.proofs.looks.Looks.new.Goals as goal

pub returns : goal.returns
returns c x = grind (arith, none_under, finite.get-empty)
