use Rattle.ghc_records.proofs.Words.{◌<◌, length, arith, string_bytes, entry_text}
use Rattle.ghc_records.proofs.ChronicleWritten.{line_put, there}
use Rattle.ghc_records.proofs.text.chronicle_writing.write_entries.Goals as goal

pub loop-place-preserved : goal.loop-place-preserved
loop-place-preserved c =
    let held = c.args.journal.now.held in
    let i = c.loop-place.place in
    let low : i < length held = omega (arith, c.loop-place-test.true, c.len-count.ensures.length) in
    let k = there held i low in
    line_put entry_text held i k.0 (string_bytes c.loop-place.out) (string_bytes c.write_entry_at.new.out) _ k.2 (c.in_ok-write_entry_at.ensures k.0 k.1) c.loop-place.invariant
