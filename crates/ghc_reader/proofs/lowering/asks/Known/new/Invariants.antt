use Rattle.ghc_reader.proofs.Words.{◌≡◌, take, bytes_eq, get, IsTable}
use Rattle.ghc_reader.proofs.lowering.asks.Known.new.Given as goal

abbrev pub invariant-loop-name : goal.invariant-loop-name
invariant-loop-name l = record {
  counted : l.place ≡ l.name-index;
  table : IsTable (get bytes_eq l.places) (take l.name-index l.names);
}
