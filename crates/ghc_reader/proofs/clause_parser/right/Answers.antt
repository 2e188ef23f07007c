use Rattle.ghc_reader.proofs.Words.{sym, ap, subst, goal_views, test_views}
use Rattle.ghc_reader.proofs.ClauseFaults as faults
use Rattle.ghc_reader.proofs.ClauseFounds as founds
use Rattle.ghc_reader.proofs.TermFounds.{passes}
use Rattle.ghc_reader.proofs.clause_parser.right.Goals as goal

pub returns-in_err-tests-clause-fault : goal.returns-in_err-tests-clause-fault
returns-in_err-tests-clause-fault c =
    passes c.from_residual.result c.in_err-tests.field-0.0 _ _ c.from_residual.ensures.1 (faults.tests_in_right c.args.tokens.now) c.in_err-tests.ensures.fault

pub returns-in_default-2-clause-fault : goal.returns-in_default-2-clause-fault
returns-in_default-2-clause-fault c =
    founds.at_stop c.args.tokens.now c.in_ok-tests.rest.now c.in-Some.after.now _ c.in_ok-tests.ensures.found c.in-Some.ensures (rw c.in_default-2.is at c.in_ok-body.ensures)

pub returns-in-Some-clause-found : goal.returns-in-Some-clause-found
returns-in-Some-clause-found c =
    subst (λ n. founds.RightFound c.args.tokens.now (record { guard = n; body = goal_views c.in-Some-2.body.items }) c.in-Some.after.now) (sym (ap test_views c.new-guard.ensures.items))
    (founds.found_unguarded c.args.tokens.now c.in_ok-tests.rest.now c.in-Some.after.now _ _ c.in_ok-tests.ensures.found c.in-Some.ensures (rw c.in-Some-2.is at c.in_ok-body.ensures))

pub returns-in_default-eat-clause-fault : goal.returns-in_default-eat-clause-fault
returns-in_default-eat-clause-fault c =
    founds.at_bar c.args.tokens.now c.in_ok-tests.rest.now _ c.in_ok-tests.ensures.found c.in_default.ensures c.in_default-eat.ensures

pub returns-in_err-body-2-clause-fault : goal.returns-in_err-body-2-clause-fault
returns-in_err-body-2-clause-fault c =
    let found = c.in_ok-tests.ensures.found in
    passes c.from_residual-in_err-body-2.result c.in_err-body-2.field-0.0 _ _ c.from_residual-in_err-body-2.ensures.1
    (λ n f. rw (found.spelled, c.in-Some-eat.ensures) (faults.body_in_right found.derivation c.in-Some-eat.behind.now n f)) c.in_err-body-2.ensures.fault

pub returns-in-None-clause-fault : goal.returns-in-None-clause-fault
returns-in-None-clause-fault c =
    founds.at_body_stop c.args.tokens.now c.in_ok-tests.rest.now c.in-Some-eat.behind.now c.in_ok-body-2.rest.now _ _ c.in_ok-tests.ensures.found c.in-Some-eat.ensures c.in_ok-body-2.ensures.found c.in-None.ensures

pub returns-in-Some-eat-2-clause-found : goal.returns-in-Some-eat-2-clause-found
returns-in-Some-eat-2-clause-found c =
    founds.found_guarded c.args.tokens.now c.in_ok-tests.rest.now c.in-Some-eat.behind.now c.in_ok-body-2.rest.now c.in-Some-eat-2.after.now _ _ c.in_ok-tests.ensures.found c.in-Some-eat.ensures c.in_ok-body-2.ensures.found c.in-Some-eat-2.ensures
