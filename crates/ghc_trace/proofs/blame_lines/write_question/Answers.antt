use Rattle.ghc_trace.proofs.Words.{◌++◌, codes, ap, ◌∙◌, append_assoc, string_bytes}
use Rattle.std.specs.Fmt.{decimal}
use Rattle.ghc_records.specs.StepText.{goal_name_text}
use Rattle.ghc_trace.proofs.blame_lines.write_question.Goals as goal

pub returns-in-Err-clause-too_long : goal.returns-in-Err-clause-too_long
returns-in-Err-clause-too_long c e rs t about = c.write_call_told.ensures.too_long (c.in-Err.is ∙ e) rs t about

pub returns-clause-text : goal.returns-clause-text
returns-clause-text c rs t about =
    let q = c.in-Ok.ensures.text rs t about in
    let tail = codes "ask " ++ (goal_name_text c.args.call.now.name ++ (codes " of " ++ (decimal c.args.count ++ codes "\n"))) in
    (q.0, q.1, q.3, c.in_ok-write_ask.ensures.text ∙ ap (λ m. m ++ tail) q.4 ∙ append_assoc (string_bytes c.args.out.now) q.1 tail)
