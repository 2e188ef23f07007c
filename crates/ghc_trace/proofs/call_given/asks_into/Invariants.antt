use Rattle.ghc_trace.proofs.Words.{List, take, Record}
use Rattle.ghc_trace.specs.inner.PartsCode.{AreKeptAs, ArePickedNumbers, NamesInside}
use Rattle.ghc_trace.proofs.call_given.asks_into.Given as goal

abbrev pub invariant-loop-number : goal.invariant-loop-number
invariant-loop-number l = (rs : List Record) → AreKeptAs l.records.held rs l.steps → ArePickedNumbers (NamesInside l.records.held l.part.keys) (take l.number-index rs) l.asks.items
