use Rattle.ghc_console.proofs.CitedWords.{err_from_is_err_and, [], ◌∷◌, length, map, lined, count_line, heading, kept_listed}
use Rattle.ghc_console.proofs.ListedLines.{all_wrote, broken_at_first, broken_at_second, broken_at_third, end_part, front_alone, kept_parts, step_lines, wrote_alone}
use Rattle.ghc_console.proofs.replies.kept_listing.write_history.Goals as goal

pub returns-in_err-write_all-clause-told : goal.returns-in_err-write_all-clause-told
returns-in_err-write_all-clause-told g c =
    let w = c.args.core.now.world in
    rw (err_from_is_err_and c.from_residual.result c.from_residual.ensures.1).1 (broken_at_first (map lined (kept_listed w)) (lined heading ∷ []) (lined (count_line (length w.kept)) ∷ []) (step_lines w) (end_part w.next) (kept_parts w) _ _
    (front_alone (lined heading) _ _ c.in_err-write_all.ensures.bytes))

pub returns-in_err-write_count-clause-told : goal.returns-in_err-write_count-clause-told
returns-in_err-write_count-clause-told g c =
    let w = c.args.core.now.world in
    rw (err_from_is_err_and c.from_residual-in_err-write_count.result c.from_residual-in_err-write_count.ensures.1).1 (broken_at_second (map lined (kept_listed w)) (lined heading ∷ []) (lined (count_line (length w.kept)) ∷ []) (step_lines w) (end_part w.next) (kept_parts w) _ _ _
    (wrote_alone (lined heading) _ _ c.in_ok-write_all.ensures.bytes) (rw (c.len.ensures.count, c.records-records.ensures) at c.in_err-write_count.ensures.told))

pub returns-in_err-write_each-clause-told : goal.returns-in_err-write_each-clause-told
returns-in_err-write_each-clause-told g c =
    let w = c.args.core.now.world in
    rw (err_from_is_err_and c.from_residual-in_err-write_each.result c.from_residual-in_err-write_each.ensures.1).1 (broken_at_third (map lined (kept_listed w)) (lined heading ∷ []) (lined (count_line (length w.kept)) ∷ []) (step_lines w) (end_part w.next) (kept_parts w) _ _ _ _
    (wrote_alone (lined heading) _ _ c.in_ok-write_all.ensures.bytes) (rw (c.len.ensures.count, c.records-records.ensures) at c.in_ok-write_count.ensures.told)
    (rw c.records-records.ensures at c.in_err-write_each.ensures.told))

pub returns-clause-told : goal.returns-clause-told
returns-clause-told g c =
    let w = c.args.core.now.world in
    all_wrote (map lined (kept_listed w)) (lined heading ∷ []) (lined (count_line (length w.kept)) ∷ []) (step_lines w) (end_part w.next) (kept_parts w) _ _ _ _ _ c.write_count-2.result
    (wrote_alone (lined heading) _ _ c.in_ok-write_all.ensures.bytes) (rw (c.len.ensures.count, c.records-records.ensures) at c.in_ok-write_count.ensures.told)
    (rw c.records-records.ensures at c.in_ok-write_each.ensures.told) (rw c.next.ensures at c.write_count-2.ensures.told)
