use Rattle.ghc_reader.proofs.Words.{sym}
use Rattle.ghc_reader.proofs.TestFaults as faults
use Rattle.ghc_reader.proofs.GoalFounds as founds
use Rattle.ghc_reader.proofs.TermFounds.{passes}
use Rattle.ghc_reader.proofs.clause_parser.test.Goals as goal

pub returns-in_err-item-clause-fault : goal.returns-in_err-item-clause-fault
returns-in_err-item-clause-fault c =
    passes c.from_residual.result c.in_err-item.field-0.0 _ _ c.from_residual.ensures.1
    (λ n f. faults.item_in_test c.args.tokens.now n (sym c.if-item_like.ensures) f)
    c.in_err-item.ensures.fault

pub returns-then-item_like-clause-found : goal.returns-then-item_like-clause-found
returns-then-item_like-clause-found c = founds.found_plain_test c.args.tokens.now c.in_ok-item.rest.now _ c.in_ok-item.ensures.found

pub returns-in_err-left-clause-fault : goal.returns-in_err-left-clause-fault
returns-in_err-left-clause-fault c =
    passes c.from_residual-in_err-left.result c.in_err-left.field-0.0 _ _ c.from_residual-in_err-left.ensures.1
    (λ n f. faults.left_in_test c.args.tokens.now n (sym c.if-item_like.ensures) f)
    c.in_err-left.ensures.fault

pub returns-in_default-clause-fault : goal.returns-in_default-clause-fault
returns-in_default-clause-fault c = founds.at_comparison c.args.tokens.now c.in_ok-left.rest.now _ (sym c.if-item_like.ensures) c.in_ok-left.ensures.found c.in_default.ensures

pub returns-in_err-right-clause-fault : goal.returns-in_err-right-clause-fault
returns-in_err-right-clause-fault c =
    let found = c.in_ok-left.ensures.found in
    passes c.from_residual-in_err-right.result c.in_err-right.field-0.0 _ _ c.from_residual-in_err-right.ensures.1
    (λ n f. rw (found.spelled, c.in-Some.ensures) (faults.right_in_test found.derivation c.in-Some.operator c.in-Some.after.now n f))
    c.in_err-right.ensures.fault

pub returns-clause-found : goal.returns-clause-found
returns-clause-found c = founds.found_compare c.args.tokens.now c.in_ok-left.rest.now c.in-Some.after.now c.in_ok-right.rest.now _ _ c.in-Some.operator c.in_ok-left.ensures.found c.in-Some.ensures c.in_ok-right.ensures.found
