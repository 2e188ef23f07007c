use Rattle.ghc_flat.proofs.Words.{take, IsTableOf}
use Rattle.ghc_flat.proofs.firsts.Table.of.Given as goal

abbrev pub invariant-loop-number : goal.invariant-loop-number
invariant-loop-number l = IsTableOf l.clauses (take l.number-index l.numbers) l.table
