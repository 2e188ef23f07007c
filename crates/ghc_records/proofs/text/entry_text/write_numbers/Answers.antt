use Rattle.ghc_records.proofs.Words.{get_or, string_bytes, drop_more}
use Rattle.ghc_records.proofs.ChronicleWritten.{number_put}
use Rattle.ghc_records.proofs.text.entry_text.write_numbers.Goals as goal

pub loop-number-preserved : goal.loop-number-preserved
loop-number-preserved c =
    let numbers = c.args.numbers.now in
    let i = c.loop-number.number-index in
    number_put numbers i (get_or numbers i 0) (string_bytes c.loop-number.out) (string_bytes c.write_numbered.new.out) _ (drop_more numbers i 0 c.loop-number-test.true) c.in_ok-write_numbered.ensures c.loop-number.invariant
