use Rattle.ghc_records.proofs.Words.{◌≡◌, ◌++◌, sym, ap, ◌∙◌, subst, string_bytes, TellsHistory, history_text}
use Rattle.ghc_records.proofs.text.history_writing.write_history.Goals as goal

pub returns-clause-told : goal.returns-clause-told
returns-clause-told c is =
    let written : string_bytes c.write_lines.new.out ≡ history_text c.args.history.now = c.in_ok-write_lines.ensures ∙ ap (λ l. l ++ history_text c.args.history.now) c.new-text.ensures.bytes in
    subst (λ l. TellsHistory l c.args.history.now) (sym written) (c.written_histories_are_read_again.ensures.written c.args.history.now is c.history_is_in_range.ensures)
