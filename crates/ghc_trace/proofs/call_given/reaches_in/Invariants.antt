use Rattle.ghc_trace.proofs.Words.{take, VarName, In}
use Rattle.ghc_trace.specs.inner.PartsCode.{IsMadeInside}
use Rattle.ghc_trace.proofs.call_given.reaches_in.Given as goal

abbrev pub invariant-loop-x : goal.invariant-loop-x
invariant-loop-x l = (x : VarName) → In x (take l.x-index l.x-items) → ¬ IsMadeInside l.records.held l.part.keys l.step.number x
