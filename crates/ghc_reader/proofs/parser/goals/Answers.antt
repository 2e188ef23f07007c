use Rattle.ghc_reader.proofs.QueryFaults as faults
use Rattle.ghc_reader.proofs.GoalFounds as founds
use Rattle.ghc_reader.proofs.Whole.{is_nothing, not_nothing}
use Rattle.ghc_reader.proofs.TermFounds.{passes}
use Rattle.ghc_reader.proofs.parser.goals.Goals as goal

pub returns-in_err-goals-clause-fault : goal.returns-in_err-goals-clause-fault
returns-in_err-goals-clause-fault c =
    passes c.from_residual.result c.in_err-goals.field-0.0 _ _ c.from_residual.ensures.1 (faults.body_in_query c.args.tokens.now) c.in_err-goals.ensures.fault

pub returns-then-is_empty-clause-found : goal.returns-then-is_empty-clause-found
returns-then-is_empty-clause-found c =
    founds.found_plain c.args.tokens.now c.in_ok-goals.rest.now _ c.in_ok-goals.ensures.found (is_nothing c.in_ok-goals.rest.now c.if-is_empty.ensures)

pub returns-in-None-clause-fault : goal.returns-in-None-clause-fault
returns-in-None-clause-fault c =
    founds.at_end c.args.tokens.now c.in_ok-goals.rest.now _ c.in_ok-goals.ensures.found (not_nothing c.in_ok-goals.rest.now c.if-is_empty.ensures) c.in-None.ensures

pub returns-then-is_empty-2-clause-found : goal.returns-then-is_empty-2-clause-found
returns-then-is_empty-2-clause-found c =
    founds.found_stopped c.args.tokens.now c.in_ok-goals.rest.now c.in-Some.after.now _ c.in_ok-goals.ensures.found c.in-Some.ensures (is_nothing c.in-Some.after.now c.if-is_empty-2.ensures)

pub returns-else-is_empty-2-clause-fault : goal.returns-else-is_empty-2-clause-fault
returns-else-is_empty-2-clause-fault c =
    founds.behind_stop c.args.tokens.now c.in_ok-goals.rest.now c.in-Some.after.now _ c.in_ok-goals.ensures.found c.in-Some.ensures (not_nothing c.in-Some.after.now c.if-is_empty-2.ensures)
