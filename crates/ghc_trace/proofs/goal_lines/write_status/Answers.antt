use Rattle.ghc_trace.proofs.Words.{◌++◌, sym, ap, ◌∙◌, string_bytes, option_copied, streaming, status_text, as_stream, as_noted}
use Rattle.ghc_trace.proofs.goal_lines.write_status.Goals as goal

pub returns-then-is_stream-clause-text : goal.returns-then-is_stream-clause-text
returns-then-is_stream-clause-text c = (streaming, as_stream (sym c.is_stream.ensures ∙ c.if-is_stream.true), c.in_ok-push_str.ensures.bytes)

pub returns-clause-text : goal.returns-clause-text
returns-clause-text c = (
  c.unwrap-note.result.now.status,
  as_noted {note = c.unwrap-note.result.now} (sym c.is_stream.ensures ∙ c.if-is_stream.false) (sym c.get.ensures ∙ ap option_copied c.unwrap-note.ensures),
  c.in_ok-push_status.ensures ∙ ap (λ s. string_bytes c.args.out.now ++ status_text s) (sym c.verdict.ensures),
)
