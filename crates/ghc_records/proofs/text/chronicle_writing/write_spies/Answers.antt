use Rattle.ghc_records.proofs.Words.{length, map, string_bytes, lines_text, predicate_text, spies_line}
use Rattle.ghc_records.proofs.ChronicleWritten.{ended, here, line_put, put_first}
use Rattle.ghc_records.proofs.text.chronicle_writing.write_spies.Goals as goal

pub loop-predicate-init : goal.loop-predicate-init
loop-predicate-init c =
    put_first (string_bytes c.args.out.now) (spies_line (length c.args.spies.now)) (lines_text (map predicate_text c.args.spies.now)) (string_bytes c.write_amount.new.out) c.in_ok-write_amount.ensures

pub loop-predicate-preserved : goal.loop-predicate-preserved
loop-predicate-preserved c =
    line_put predicate_text c.args.spies.now c.loop-predicate.predicate-index c.predicate-item.result (string_bytes c.loop-predicate.out) (string_bytes c.push_str.new.self) _
    (here c.args.spies.now c.loop-predicate.predicate-index c.predicate-item.result c.loop-predicate-test.true c.predicate-item.is)
    (ended (string_bytes c.loop-predicate.out) (string_bytes c.write_predicate.new.out) (string_bytes c.push_str.new.self) (predicate_text c.predicate-item.result) c.in_ok-write_predicate.ensures c.in_ok-push_str.ensures.bytes)
    c.loop-predicate.invariant
