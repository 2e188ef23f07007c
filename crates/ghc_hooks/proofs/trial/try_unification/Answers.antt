use Rattle.std.proofs.Common.{arith}
use Rattle.ghc_hooks.proofs.Trying.{united_note, apart_note}
use Rattle.ghc_hooks.proofs.trial.try_unification.Goals as goal

pub returns-in-None : goal.returns-in-None
returns-in-None c P = grind (arith, united_note)

pub returns-in-Some : goal.returns-in-Some
returns-in-Some c P = grind (arith, apart_note)
