use Rattle.ghc_records.proofs.Words.{string_bytes}
use Rattle.ghc_records.proofs.HistoryLines.{history_written}
use Rattle.ghc_records.proofs.text.history_writing.write_lines.Goals as goal

pub returns : goal.returns
returns c =
    history_written c.args.history.now (string_bytes c.args.out.now) (string_bytes c.push_str.new.self) (string_bytes c.push_number.new.out) (string_bytes c.push_str-2.new.self)
    (string_bytes c.write_steps.new.out) (string_bytes c.push_str-3.new.self) (string_bytes c.push_number-2.new.out) (string_bytes c.push_str-4.new.self)
    c.in_ok-push_str.ensures.bytes (rw c.steps-listed.ensures.steps at c.in_ok-push_number.ensures) c.in_ok-push_str-2.ensures.bytes
    (rw c.steps-listed.ensures.steps at c.in_ok-write_steps.ensures) c.in_ok-push_str-3.ensures.bytes
    (rw c.next.ensures at c.in_ok-push_number-2.ensures) c.in_ok-push_str-4.ensures.bytes
