use Rattle.ghc_console.proofs.CitedWords.{err_from_is_err_and, ◌≡◌, ◌-◌, ◌∙◌, [], ◌∷◌, ap, sym, drop, length, length-drop, lined, entries_line, entry_text}
use Rattle.ghc_console.proofs.ListedLines.{front_less, lines_of_each, wrote_then}
use Rattle.ghc_console.proofs.replies.session_listing.write_entries.Goals as goal

pub returns-in_err-write_count-clause-told : goal.returns-in_err-write_count-clause-told
returns-in_err-write_count-clause-told g c =
    let held = c.args.journal.now.held in
    let behind = drop c.args.first held in
    let count : c.saturating_sub-count.result ≡ length behind = c.saturating_sub-count.ensures ∙ ap (λ n. n - c.args.first) c.len.ensures.length ∙ sym (length-drop c.args.first held) in
    rw (err_from_is_err_and c.from_residual.result c.from_residual.ensures.1).1 (front_less (lined (entries_line (length behind)) ∷ []) (lines_of_each entry_text behind) _ _ (rw count at c.in_err-write_count.ensures.told))

pub returns-clause-told : goal.returns-clause-told
returns-clause-told g c =
    let held = c.args.journal.now.held in
    let behind = drop c.args.first held in
    let count : c.saturating_sub-count.result ≡ length behind = c.saturating_sub-count.ensures ∙ ap (λ n. n - c.args.first) c.len.ensures.length ∙ sym (length-drop c.args.first held) in
    wrote_then (lined (entries_line (length behind)) ∷ []) (lines_of_each entry_text behind) _ _ _ c.write_each_entry.result (rw count at c.in_ok-write_count.ensures.told) c.write_each_entry.ensures.told
