use Rattle.ghc_records.proofs.Words.{◌≡◌, take, In, Record, numbers}
use Rattle.ghc_records.proofs.records.Records.in_order.Given as goal

abbrev pub invariant-loop-number : goal.invariant-loop-number
invariant-loop-number l = record {
  numbered : numbers l.new.held ≡ take l.number-index l.order;
  kept : (r : Record) → In r l.new.held → In r l.self.held;
}
