use Rattle.ghc_console.proofs.CitedWords.{length, lined, opening_line}
use Rattle.ghc_console.proofs.replies.session_listing.write_opening_line.Goals as goal

pub returns-clause-told : goal.returns-clause-told
returns-clause-told g c =
    let o = c.args.opening.now in
    c.write_made.ensures.told (lined (opening_line o.next (length o.steps))) (rw (c.steps.ensures.steps, c.next.ensures) at c.tell_opening-made.ensures)
