use Rattle.ghc_console.proofs.CitedWords.{◌++◌, ap, ◌∙◌, append_assoc, codes, string_bytes, value_at}
use Rattle.ghc_match.specs.Match.{HasOutcome, waits}
use Rattle.ghc_records.specs.StepText.{variables_text}
use Rattle.ghc_console.specs.Looks.{place_text, tells_yes, tells_waits, tells_no}
use Rattle.ghc_console.proofs.Settling.{appended}
use Rattle.ghc_console.proofs.StepReplies.{on_ok}
use Rattle.ghc_console.proofs.replies.clause_lines.push_outcome.Goals as goal

pub returns-in-Refuses : goal.returns-in-Refuses
returns-in-Refuses c = on_ok c.push_refusal.result c.push_refusal.ensures (λ (place, at, is). (codes "no " ++ place_text place, tells_no place at, is))

pub returns-in-Waits : goal.returns-in-Waits
returns-in-Waits c =
    let xs = c.in-Waits.awaited in
    let has : HasOutcome c.args.clause.now c.args.arguments.now (value_at c.args.store.now.held) (waits xs) = rw c.in-Waits.is at c.in_ok-tried.ensures.outcome in
    let old = string_bytes c.args.reply.now in
    appended c.push_variables.result (string_bytes c.push_variables.new.out) (string_bytes c.push_str.new.self) (variables_text xs) c.push_variables.ensures (λ is. (
      codes "waits " ++ variables_text xs,
      tells_waits xs has,
      is ∙ ap (λ l. l ++ variables_text xs) c.in_ok-push_str-in-Waits.ensures.bytes ∙ append_assoc old (codes "waits ") (variables_text xs),
    ))

pub returns : goal.returns
returns c =
    let outcome = rw c.in-Accepts.is at c.in_ok-tried.ensures.outcome in
    appended c.push_str-in-Accepts.result (string_bytes c.push_str-in-Accepts.new.self) (string_bytes c.args.reply.now) (codes "yes") c.push_str-in-Accepts.ensures.bytes
    (λ is. (codes "yes", tells_yes outcome.0, is))
