use Rattle.ghc_trace.proofs.questions.questions_of.Goals as goal

pub returns : goal.returns
returns c P query rs t target replay are =
    let top = c.in_ok-top.ensures P query rs t target replay are c.in_ok-judged.ensures in
    (top.0, top.1, top.2, c.in_ok-doubts.ensures.said P query rs t target c.args.answers.now top.0 replay are c.in_ok-judged.ensures top.1)
