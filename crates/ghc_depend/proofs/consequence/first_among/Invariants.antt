use Rattle.ghc_depend.proofs.Words.{take, IsFirstAmong}
use Rattle.ghc_depend.proofs.consequence.first_among.Given as goal

abbrev pub invariant-loop-n : goal.invariant-loop-n
invariant-loop-n l = IsFirstAmong l.records.slots (take l.n-index l.ns) l.first
