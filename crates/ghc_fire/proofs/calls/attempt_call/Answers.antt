use Rattle.ghc_fire.proofs.Words.{length, refl, sym, ap, ◌∙◌, subst, inr, arith, MatchOption-at_some, IsClause, IsFor, IsReductionOf}
use Rattle.ghc_fire.proofs.Calling.{some_there, tried_nothing, next_for, next_refuses, next_waits, all_wait, all_refuse, least_reduces}
use Rattle.ghc_fire.proofs.Steps.{clause_once}
use Rattle.ghc_fire.proofs.calls.attempt_call.Goals as goal

pub loop-number-init : goal.loop-number-init
loop-number-init c = tried_nothing _ _ _ _ _ _ c.first_end-first.ensures c.candidates-candidates.ensures

pub loop-number-smaller : goal.loop-number-smaller
loop-number-smaller c = let more = ap length c.in-Some.ensures.least in omega (arith, more)

pub unwrap-clause-requires : goal.unwrap-clause-requires
unwrap-clause-requires c =
    let n = next_for _ _ _ _ _ _ c.loop-number.invariant _ _ c.in-Some.ensures.least in
    some_there (IsClause c.args.program.now _) c.clause.result c.clause.ensures.none n.0 n.1

pub try_clause_as_step-requires : goal.try_clause_as_step-requires
try_clause_as_step-requires c =
    let n = next_for _ _ _ _ _ _ c.loop-number.invariant _ _ c.in-Some.ensures.least in
    let is = MatchOption-at_some _ _ c.unwrap-clause.result c.unwrap-clause.ensures c.clause.ensures.found in
    ap (λ d. length d.head) (clause_once c.args.program.now is n.1) ∙ n.2.1

pub returns-in-Reduces-clause-fired : goal.returns-in-Reduces-clause-fired
returns-in-Reduces-clause-fired c =
    let r = c.args.reduction.now in
    subst (λ f. IsReductionOf r.step r.name r.goal.now f) (sym c.in_ok-fired-in-Reduces.ensures.step) refl

pub returns-in-Reduces-clause-proposed : goal.returns-in-Reduces-clause-proposed
returns-in-Reduces-clause-proposed c =
    let n = next_for _ _ _ _ _ _ c.loop-number.invariant _ _ c.in-Some.ensures.least in
    let is = MatchOption-at_some _ _ c.unwrap-clause.result c.unwrap-clause.ensures c.clause.ensures.found in
    let for = subst (IsFor c.args.name.now c.args.arguments.now) (clause_once c.args.program.now n.1 is) n.2 in
    let v = rw c.in-Reduces.is at c.in_ok-try_clause_as_step.ensures in
    rw c.in_ok-fired-in-Reduces.ensures.step
    (least_reduces _ _ _ _ _ _ c.loop-number.invariant _ _ c.in-Some.ensures.least c.args.reduction.now.step _ c.in-Reduces.effect is for v)

pub loop-number-preserved-then-refuses_at_first : goal.loop-number-preserved-then-refuses_at_first
loop-number-preserved-then-refuses_at_first c =
    let is = MatchOption-at_some _ _ c.unwrap-clause.result c.unwrap-clause.ensures c.clause.ensures.found in
    let refuses = c.refuses_at_first.ensures c.if-refuses_at_first.true _ _ c.first_end-first.ensures in
    next_refuses _ _ _ _ _ _ c.loop-number.invariant _ _ c.in-Some.ensures.least _ is refuses

pub loop-number-preserved-in-Refuses : goal.loop-number-preserved-in-Refuses
loop-number-preserved-in-Refuses c =
    let is = MatchOption-at_some _ _ c.unwrap-clause.result c.unwrap-clause.ensures c.clause.ensures.found in
    next_refuses _ _ _ _ _ _ c.loop-number.invariant _ _ c.in-Some.ensures.least _ is (rw c.in-Refuses.is at c.in_ok-try_clause_as_step.ensures)

pub loop-number-preserved : goal.loop-number-preserved
loop-number-preserved c =
    let is = MatchOption-at_some _ _ c.unwrap-clause.result c.unwrap-clause.ensures c.clause.ensures.found in
    next_waits _ _ _ _ _ _ c.loop-number.invariant _ _ c.in-Some.ensures.least _ is (rw c.in-Waits.is at c.in_ok-try_clause_as_step.ensures)

pub returns-then-waits-clause-fault : goal.returns-then-waits-clause-fault
returns-then-waits-clause-fault c = inr (all_wait _ _ _ _ _ _ c.loop-number.invariant c.in_default.ensures.none c.if-waits.true)

pub returns-clause-fault : goal.returns-clause-fault
returns-clause-fault c = inr (all_refuse _ _ _ _ _ _ c.loop-number.invariant c.in_default.ensures.none c.if-waits.false)
