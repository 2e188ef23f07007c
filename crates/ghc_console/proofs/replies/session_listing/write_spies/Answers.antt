use Rattle.ghc_console.proofs.CitedWords.{err_from_is_err_and, [], ◌∷◌, length, lined, spies_line, chronicle_predicate_text}
use Rattle.ghc_console.proofs.ListedLines.{front_less, lines_of_each, wrote_then}
use Rattle.ghc_console.proofs.replies.session_listing.write_spies.Goals as goal

pub returns-in_err-write_count-clause-told : goal.returns-in_err-write_count-clause-told
returns-in_err-write_count-clause-told g c =
    let spies = c.args.spies.now in
    rw (err_from_is_err_and c.from_residual.result c.from_residual.ensures.1).1 (front_less (lined (spies_line (length spies)) ∷ []) (lines_of_each chronicle_predicate_text spies) _ _ c.in_err-write_count.ensures.told)

pub returns-clause-told : goal.returns-clause-told
returns-clause-told g c =
    let spies = c.args.spies.now in
    wrote_then (lined (spies_line (length spies)) ∷ []) (lines_of_each chronicle_predicate_text spies) _ _ _ c.write_each_spy.result c.in_ok-write_count.ensures.told c.write_each_spy.ensures.told
