use Rattle.ghc_hooks.proofs.Words.{arith}
use Rattle.std.specs.FinSet as set
use Rattle.ghc_hooks.proofs.Few.{one_counted}
use Rattle.ghc_hooks.proofs.Under.{one_under, none_under}
use Rattle.ghc_hooks.proofs.looks.Looks.at.Goals as goal

pub returns-in-Some-get-clause-once : goal.returns-in-Some-get-clause-once
returns-in-Some-get-clause-once c = grind (arith, one_counted, one_under)

pub returns-in-None-clause-once : goal.returns-in-None-clause-once
returns-in-None-clause-once c = grind (arith, set.len-empty, none_under)
