use Rattle.ghc_reader.proofs.Words.{true, inr, arith, err_from_is_err_and, goal_views, an_ask}
use Rattle.ghc_reader.proofs.AskReadings.{ask_refusals, ask_read, ask_too_deep}
use Rattle.ghc_reader.proofs.OneReading.{token_refusal}
use Rattle.ghc_reader.proofs.parse_trees.parsed_ask.Goals as goal

pub returns-in_err-lexed-clause-fault : goal.returns-in_err-lexed-clause-fault
returns-in_err-lexed-clause-fault c =
    let passed = err_from_is_err_and c.from_residual.result c.from_residual.ensures.1 in
    rw (passed.1, passed.2) (token_refusal an_ask c.args.text.now _ c.in_err-lexed.ensures.fault)

pub returns-in_err-goals-clause-fault : goal.returns-in_err-goals-clause-fault
returns-in_err-goals-clause-fault c =
    let passed = err_from_is_err_and c.from_residual-in_err-goals.result c.from_residual-in_err-goals.ensures.1 in
    rw (passed.1, passed.2) (ask_refusals c.args.text.now _ (c.in_err-goals.ensures.fault true c.args.text.now c.in_ok-lexed.ensures.found))

pub returns-then-most_levels-gt-MOST_LEVELS-clause-fault : goal.returns-then-most_levels-gt-MOST_LEVELS-clause-fault
returns-then-most_levels-gt-MOST_LEVELS-clause-fault c =
    let text = c.args.text.now in
    let levels = rw c.deref.ensures.value at c.most_levels.ensures in
    inr (ask_too_deep text (goal_views c.in_ok-goals.goals.items) (c.in_ok-goals.ensures.found true text c.in_ok-lexed.ensures.found) (omega (arith, levels, c.if-most_levels-gt-MOST_LEVELS.true)))

pub returns-clause-found : goal.returns-clause-found
returns-clause-found c =
    let text = c.args.text.now in
    let levels = rw c.deref.ensures.value at c.most_levels.ensures in
    ask_read text (goal_views c.in_ok-goals.goals.items) (c.in_ok-goals.ensures.found true text c.in_ok-lexed.ensures.found) (omega (arith, levels, c.if-most_levels-gt-MOST_LEVELS.false))
