use Rattle.ghc_depend.proofs.Words.{arith}
use Rattle.ghc_depend.proofs.Causes.{woken}
use Rattle.ghc_depend.proofs.cause.is_woken_by.Goals as goal

pub returns-then-was_there_before : goal.returns-then-was_there_before
returns-then-was_there_before c a there = grind (arith, woken)
