use Rattle.ghc_core.proofs.Words.{◌≡◌, take, made_from}
use Rattle.ghc_core.proofs.AskedAgain.{own}
use Rattle.ghc_core.proofs.saved.asked_again.own_count.Given as goal

abbrev pub invariant-loop-x : goal.invariant-loop-x
invariant-loop-x l = own l.number (take l.x-index l.x-items) ≡ made_from l.number 1 l.count
