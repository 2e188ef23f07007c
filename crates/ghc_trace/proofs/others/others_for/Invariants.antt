use Rattle.ghc_trace.proofs.Words.{take, Picks}
use Rattle.ghc_trace.specs.OtherClauses.{CouldBe}
use Rattle.ghc_trace.proofs.others.others_for.Given as goal

abbrev pub invariant-loop-number : goal.invariant-loop-number
invariant-loop-number l = Picks (CouldBe l.core.world l.step) (take l.number-index l.number-items) l.others.items
