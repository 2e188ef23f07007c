use Rattle.ghc_reader.proofs.Words.{take, Each, IsNaming}
use Rattle.ghc_reader.proofs.lowering.asks.Known.namings.Given as goal

abbrev pub invariant-loop-name : goal.invariant-loop-name
invariant-loop-name l = Each (IsNaming l.self) (take l.name-index l.names) l.named.items
