use Rattle.ghc_core.specs.Resume.{opening_of}
use Rattle.ghc_console.proofs.CitedWords.{err_from_is_err_and, length, drop, map, lined, chronicle_lines, chronicle_of}
use Rattle.ghc_console.proofs.ListedLines.{all_wrote, broken_at_first, broken_at_second, broken_at_third, end_part, entries_part, opening_part, session_parts, spies_part}
use Rattle.ghc_console.proofs.replies.session_listing.write_session.Goals as goal

pub returns-in_err-write_opening-clause-told : goal.returns-in_err-write_opening-clause-told
returns-in_err-write_opening-clause-told g c =
    let w = c.args.core.now.world in
    let o = opening_of w in
    let ps = c.args.spies.now in
    rw (err_from_is_err_and c.from_residual.result c.from_residual.ensures.1).1 (broken_at_first (map lined (chronicle_lines (chronicle_of o w.journal ps w.next))) (opening_part o) (entries_part (drop (length o.steps) w.journal)) (spies_part ps) (end_part w.next) (session_parts o w.journal ps w.next) _ _
    (rw c.opening-opening.ensures at c.in_err-write_opening.ensures.told))

pub returns-in_err-write_entries-clause-told : goal.returns-in_err-write_entries-clause-told
returns-in_err-write_entries-clause-told g c =
    let w = c.args.core.now.world in
    let o = opening_of w in
    let ps = c.args.spies.now in
    rw (err_from_is_err_and c.from_residual-in_err-write_entries.result c.from_residual-in_err-write_entries.ensures.1).1 (broken_at_second (map lined (chronicle_lines (chronicle_of o w.journal ps w.next))) (opening_part o) (entries_part (drop (length o.steps) w.journal)) (spies_part ps) (end_part w.next) (session_parts o w.journal ps w.next) _ _ _
    (rw c.opening-opening.ensures at c.in_ok-write_opening.ensures.told) (rw (c.steps.ensures.steps, c.opening-opening.ensures, c.journal.ensures) at c.in_err-write_entries.ensures.told))

pub returns-in_err-write_spies-clause-told : goal.returns-in_err-write_spies-clause-told
returns-in_err-write_spies-clause-told g c =
    let w = c.args.core.now.world in
    let o = opening_of w in
    let ps = c.args.spies.now in
    rw (err_from_is_err_and c.from_residual-in_err-write_spies.result c.from_residual-in_err-write_spies.ensures.1).1 (broken_at_third (map lined (chronicle_lines (chronicle_of o w.journal ps w.next))) (opening_part o) (entries_part (drop (length o.steps) w.journal)) (spies_part ps) (end_part w.next) (session_parts o w.journal ps w.next) _ _ _ _
    (rw c.opening-opening.ensures at c.in_ok-write_opening.ensures.told) (rw (c.steps.ensures.steps, c.opening-opening.ensures, c.journal.ensures) at c.in_ok-write_entries.ensures.told)
    c.in_err-write_spies.ensures.told)

pub returns-clause-told : goal.returns-clause-told
returns-clause-told g c =
    let w = c.args.core.now.world in
    let o = opening_of w in
    let ps = c.args.spies.now in
    all_wrote (map lined (chronicle_lines (chronicle_of o w.journal ps w.next))) (opening_part o) (entries_part (drop (length o.steps) w.journal)) (spies_part ps) (end_part w.next) (session_parts o w.journal ps w.next) _ _ _ _ _
    c.write_count.result (rw c.opening-opening.ensures at c.in_ok-write_opening.ensures.told)
    (rw (c.steps.ensures.steps, c.opening-opening.ensures, c.journal.ensures) at c.in_ok-write_entries.ensures.told) c.in_ok-write_spies.ensures.told
    (rw c.next.ensures at c.write_count.ensures.told)
