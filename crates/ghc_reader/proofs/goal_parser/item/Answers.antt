use Rattle.std.proofs.lemmas.Result.{IfOk-weaker}
use Rattle.ghc_reader.proofs.Words.{goal_view}
use Rattle.ghc_reader.proofs.GoalFaults as faults
use Rattle.ghc_reader.proofs.GoalFounds as founds
use Rattle.ghc_reader.proofs.TermFounds.{passes, hands_on}
use Rattle.ghc_reader.proofs.goal_parser.item.Goals as goal

pub returns-in_err-left-clause-fault : goal.returns-in_err-left-clause-fault
returns-in_err-left-clause-fault c =
    passes c.from_residual.result c.in_err-left.field-0.0 _ _ c.from_residual.ensures.1
    (λ n f. faults.term_in_item c.args.tokens.now n c.in_default.ensures f)
    c.in_err-left.ensures.fault

pub returns-in-None-clause-fault : goal.returns-in-None-clause-fault
returns-in-None-clause-fault c =
    founds.at_equals c.args.tokens.now c.in_ok-left.rest.now _ c.in_ok-left.ensures.found c.in_default.ensures c.in_default-assigned.ensures c.in-None.ensures

pub returns-in-Some-eat-clause-found : goal.returns-in-Some-eat-clause-found
returns-in-Some-eat-clause-found c =
    IfOk-weaker c.equation.result _ _ (λ x f. founds.found_equation c.args.tokens.now c.in_ok-left.rest.now c.in-Some-eat.after.now x.1.now _ (goal_view x.0) c.in_ok-left.ensures.found c.in-Some-eat.ensures f) c.equation.ensures.found

pub returns-in-Some-eat-clause-fault : goal.returns-in-Some-eat-clause-fault
returns-in-Some-eat-clause-fault c =
    hands_on c.equation.result _ _ (λ n f. founds.in_right c.args.tokens.now c.in_ok-left.rest.now c.in-Some-eat.after.now _ n c.in_ok-left.ensures.found c.in-Some-eat.ensures f) c.equation.ensures.fault
