use Rattle.ghc_reader.proofs.Words.{[], sym, ap, subst, Call, views, goal_views, test_views}
use Rattle.ghc_reader.proofs.ClauseFounds as founds
use Rattle.ghc_reader.proofs.TermFounds.{passes}
use Rattle.ghc_reader.proofs.clause_parser.clause.Goals as goal

pub returns-in-Some-clause-found : goal.returns-in-Some-clause-found
returns-in-Some-clause-found c =
    let h = c.in_ok-head.head in
    let found = c.in_ok-head.ensures.found in
    let head : Call = record { left = h.left; name = h.name; arguments = views h.arguments.items } in
    subst (λ b. founds.ClauseFound c.args.tokens.now (record { head = head; guard = test_views c.new-guard.result.items; body = b }) c.in-Some.after.now) (sym (ap goal_views c.new-body.ensures.items))
    (subst (λ n. founds.ClauseFound c.args.tokens.now (record { head = head; guard = n; body = [] }) c.in-Some.after.now) (sym (ap test_views c.new-guard.ensures.items))
    (founds.found_fact c.args.tokens.now found.0 c.in_ok-head.rest.now c.in-Some.after.now _ h.name _ c.in_ok-head.ensures.left found.1 found.2 c.in-Some.ensures))

pub returns-in_default-eat-clause-fault : goal.returns-in_default-eat-clause-fault
returns-in_default-eat-clause-fault c =
    let found = c.in_ok-head.ensures.found in
    founds.at_define c.args.tokens.now found.0 c.in_ok-head.rest.now c.in_ok-head.head.name _ found.1 found.2 c.in_default.ensures c.in_default-eat.ensures

pub returns-in_err-right-clause-fault : goal.returns-in_err-right-clause-fault
returns-in_err-right-clause-fault c =
    let found = c.in_ok-head.ensures.found in
    passes c.from_residual-in_err-right.result c.in_err-right.field-0.0 _ _ c.from_residual-in_err-right.ensures.1
    (λ n f. founds.in_right_side c.args.tokens.now found.0 c.in_ok-head.rest.now c.in-Some-eat.inside.now c.in_ok-head.head.name _ n found.1 found.2 c.in-Some-eat.ensures f) c.in_err-right.ensures.fault

pub returns-clause-found : goal.returns-clause-found
returns-clause-found c =
    let found = c.in_ok-head.ensures.found in
    founds.found_rule c.args.tokens.now found.0 c.in_ok-head.rest.now c.in-Some-eat.inside.now c.in_ok-right.after.now _ c.in_ok-head.head.name _ _ c.in_ok-head.ensures.left found.1 found.2 c.in-Some-eat.ensures c.in_ok-right.ensures.found
