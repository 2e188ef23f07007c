use Rattle.ghc_reader.proofs.Words.{◌≡◌, ◌≢◌, ◌+◌, refl, sym, subst, take, bytes_eq, rules, get, blank, IsTable}
use Rattle.ghc_reader.proofs.AsksLowered.{table_passed, table_put}
use Rattle.ghc_reader.proofs.lowering.asks.Known.new.Goals as goal
use Rattle.ghc_reader.proofs.lowering.asks.Known.new.Goals.{then-ne+in_ok-put, else-ne}

pub loop-name-preserved : goal.loop-name-preserved
loop-name-preserved c =
    let before = c.loop-name in
    let i = before.name-index in
    let name = c.name-item.result in
    let number : c.in-Some.next ≡ i + 1 = search rules in
    elim c.if-ne.branch [
      | then-ne+in_ok-put w ↦
          let named : name ≢ blank = search rules in
          record {
            counted = number;
            table = subst (λ m. IsTable (get bytes_eq m) (take (i + 1) c.args.names.now)) (sym w.places-is) (table_put before.places w.put.new.places c.args.names.now i name name c.in-Some.next refl named c.loop-name-test.true c.name-item.is number before.invariant.table w.in_ok-put.ensures.put);
          }
      | else-ne w ↦
          let unnamed : name ≡ blank = search rules in
          record {
            counted = number;
            table = subst (λ m. IsTable (get bytes_eq m) (take (i + 1) c.args.names.now)) (sym w.places-is) (table_passed (get bytes_eq before.places) c.args.names.now i name unnamed c.loop-name-test.true c.name-item.is before.invariant.table);
          }
    ]
