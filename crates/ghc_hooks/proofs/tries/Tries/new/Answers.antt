use Rattle.ghc_hooks.proofs.Words.{arith, not_both}
use Rattle.std.specs.FinMap as finite
use Rattle.std.specs.FinSet as set
use Rattle.ghc_hooks.proofs.tries.Tries.new.Goals as goal

pub invariant_of-result : goal.invariant_of-result
invariant_of-result c = grind (arith, not_both, set.contains-empty, finite.get-empty, finite.len-empty)
