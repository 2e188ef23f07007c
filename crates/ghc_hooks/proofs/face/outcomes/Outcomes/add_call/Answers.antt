use Rattle.ghc_hooks.proofs.Words.{length, take_all, refl, arith, MatchOption-at_some, in_at, IsClause, outcome_of, numbered_for, some_there}
use Rattle.ghc_hooks.proofs.FoundFace.{outcomes_next, all_outcomes, number_says}
use Rattle.ghc_hooks.proofs.face.outcomes.Outcomes.add_call.Goals as goal

pub unwrap-clause-requires : goal.unwrap-clause-requires
unwrap-clause-requires c =
    let n = numbered_for c.args.program.now c.args.name.now (length c.args.arguments.now) c.clauses_for-number-items.result.now
    c.clauses_for-number-items.ensures c.loop-number.number-index _ c.loop-number-test.true refl in
    some_there (IsClause c.args.program.now _) c.clause.result c.clause.ensures.none n.0 n.1

pub try_clause-requires : goal.try_clause-requires
try_clause-requires c = grind (arith, in_at)

pub loop-number-preserved : goal.loop-number-preserved
loop-number-preserved c =
    let P = c.args.program.now in
    let s = c.args.store.now.held in
    let f = c.args.name.now in
    let ts = c.args.arguments.now in
    let ks = c.clauses_for-number-items.result.now in
    let i = c.loop-number.number-index in
    let is = MatchOption-at_some _ _ c.unwrap-clause.result c.unwrap-clause.ensures c.clause.ensures.found in
    let says = number_says P s f ts ks c.clauses_for-number-items.ensures i c.loop-number-test.true c.unwrap-clause.result.now is (outcome_of c.in_ok-tried.tried) c.in_ok-tried.ensures.outcome in
    outcomes_next P s f ts c.args.goal c.args.self.now c.loop-number.self c.put.new.self c.requires ks i c.loop-number-test.true c.loop-number.invariant (outcome_of c.in_ok-tried.tried) says c.in_ok-put.ensures

pub returns : goal.returns
returns c =
    let ks = c.clauses_for-number-items.result.now in
    all_outcomes c.args.program.now c.args.store.now.held c.args.name.now c.args.arguments.now c.args.goal c.args.self.now c.loop-number.self c.loop-number.self
    c.requires ks c.clauses_for-number-items.ensures
    (rw (take_all c.loop-number.number-index ks (omega (arith, c.loop-number-test.false))) at c.loop-number.invariant)
