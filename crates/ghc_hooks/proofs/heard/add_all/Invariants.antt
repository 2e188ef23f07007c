use Rattle.ghc_hooks.proofs.Words.{take, In, Gains}
use Rattle.ghc_hooks.proofs.heard.add_all.Given as goal

abbrev pub invariant-loop-name : goal.invariant-loop-name
invariant-loop-name l = Gains l.initial.gathered l.gathered (λ x. In x (take l.name-index l.names))
