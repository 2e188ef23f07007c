use Rattle.ghc_depend.proofs.Words.{take, VarName, In, Record, StandsIn, IsBoundBehind}
use Rattle.ghc_depend.proofs.cause.reads_behind.Given as goal

abbrev pub invariant-loop-x : goal.invariant-loop-x
invariant-loop-x l = (x : VarName) → In x (take l.x-index l.x-items) → (a : Record) → StandsIn l.records.slots l.place a → ¬ IsBoundBehind l.records.held a x
