use Rattle.ghc_trace.proofs.Words.{◌≡◌, true, arith, nat_tests}
use Rattle.ghc_trace.proofs.BlameAnswers.{one_beside}
use Rattle.ghc_trace.proofs.CausePlaces.{on_ok}
use Rattle.ghc_trace.proofs.blaming.write_answered.Goals as goal

pub returns-then-not-are_about_calls-clause-beside : goal.returns-then-not-are_about_calls-clause-beside
returns-then-not-are_about_calls-clause-beside c e rs t about =
    let d = c.args.told.now in
    one_beside d rs t about c.args.answers.now (λ all. let yes = (c.are_about_calls.ensures rs t d.target about.calls).1 all in absurd (grind (arith, nat_tests, yes, c.if-not-are_about_calls.true)))

pub returns-clause-text : goal.returns-clause-text
returns-clause-text c = on_ok c.write_next.result c.write_next.ensures.text (λ tells rs t about.
    let d = c.args.told.now in
    let yes : c.are_about_calls.result ≡ true = grind (arith, nat_tests, c.if-not-are_about_calls.false) in
    ((c.are_about_calls.ensures rs t d.target about.calls).0 yes, tells rs t about))

pub returns-clause-too_long : goal.returns-clause-too_long
returns-clause-too_long c e rs t about =
    let d = c.args.told.now in
    let yes : c.are_about_calls.result ≡ true = grind (arith, nat_tests, c.if-not-are_about_calls.false) in
    ((c.are_about_calls.ensures rs t d.target about.calls).0 yes, c.write_next.ensures.too_long e rs t about)
