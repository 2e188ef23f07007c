use Rattle.ghc_fire.proofs.Words.{take, In, Gains}
use Rattle.ghc_fire.proofs.expression_reads.add_all.Given as goal

abbrev pub invariant-loop-name : goal.invariant-loop-name
invariant-loop-name l = Gains l.initial.reads l.reads (λ x. In x (take l.name-index l.names))
