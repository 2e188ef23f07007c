use Rattle.ghc_console.proofs.CitedWords.{err_from_is_err_and, [], ◌∷◌, length, lined, step_text, chronicle_heading, opening_line}
use Rattle.ghc_console.proofs.ListedLines.{front_less, front_then, lines_of_each, wrote_then}
use Rattle.ghc_console.proofs.replies.session_listing.write_opening.Goals as goal

pub returns-in_err-write_heading-clause-told : goal.returns-in_err-write_heading-clause-told
returns-in_err-write_heading-clause-told g c =
    let o = c.args.opening.now in
    rw (err_from_is_err_and c.from_residual.result c.from_residual.ensures.1).1 (front_less (lined chronicle_heading ∷ []) (lined (opening_line o.next (length o.steps)) ∷ lines_of_each step_text o.steps) _ _ c.in_err-write_heading.ensures.told)

pub returns-in_err-write_opening_line-clause-told : goal.returns-in_err-write_opening_line-clause-told
returns-in_err-write_opening_line-clause-told g c =
    let o = c.args.opening.now in
    let steps = lines_of_each step_text o.steps in
    let second = lined (opening_line o.next (length o.steps)) in
    rw (err_from_is_err_and c.from_residual-in_err-write_opening_line.result c.from_residual-in_err-write_opening_line.ensures.1).1 (front_then (lined chronicle_heading ∷ []) (second ∷ steps) _ _ _ c.in_ok-write_heading.ensures.told (front_less (second ∷ []) steps _ _ c.in_err-write_opening_line.ensures.told))

pub returns-clause-told : goal.returns-clause-told
returns-clause-told g c =
    let o = c.args.opening.now in
    let steps = lines_of_each step_text o.steps in
    let second = lined (opening_line o.next (length o.steps)) in
    wrote_then (lined chronicle_heading ∷ []) (second ∷ steps) _ _ _ c.write_steps.result c.in_ok-write_heading.ensures.told
    (wrote_then (second ∷ []) steps _ _ _ c.write_steps.result c.in_ok-write_opening_line.ensures.told (rw c.steps.ensures.steps at c.write_steps.ensures.told))
