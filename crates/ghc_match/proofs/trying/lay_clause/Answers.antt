use Rattle.ghc_match.proofs.Words.{arith, value_at}
use Rattle.ghc_match.proofs.TryClause.{all_looked_at, head_waits, guard_refuses, guard_waits, all_accept}
use Rattle.ghc_match.proofs.trying.lay_clause.Goals as goal

pub returns-then-met-clause-looked : goal.returns-then-met-clause-looked
returns-then-met-clause-looked c =
    let head = c.in_ok-match_head.ensures in
    all_looked_at c.args.clause.now c.args.arguments.now _ _ head.stands _ _ head.looked c.tests.ensures c.in_ok-look_on.ensures

pub returns-then-len-gt0 : goal.returns-then-len-gt0
returns-then-len-gt0 c =
    let head = c.in_ok-match_head.ensures in
    record {
      outcome = head_waits c.args.clause.now c.args.arguments.now (value_at c.args.store.now.held) _ head.stands head.clashes c.if-met.false _ head.wanted
          (omega (arith, c.if-len-gt0.true, c.len.ensures));
      looked = all_looked_at c.args.clause.now c.args.arguments.now _ _ head.stands _ _ head.looked c.tests-then-len-gt0.ensures c.in_ok-look_on-2.ensures;
    }

pub returns-then-says_no : goal.returns-then-says_no
returns-then-says_no c =
    let head = c.in_ok-match_head.ensures in
    record {
      outcome = guard_refuses c.args.clause.now c.args.arguments.now (value_at c.args.store.now.held) _ head.stands head.clashes c.if-met.false _ head.wanted
          (omega (arith, c.if-len-gt0.false, c.len.ensures)) c.tests-2.ensures c.in_ok-says_no.ensures.no c.if-says_no.true;
      looked = all_looked_at c.args.clause.now c.args.arguments.now _ _ head.stands _ _ head.looked c.tests-2.ensures c.in_ok-says_no.ensures.looked;
    }

pub returns-then-len-eq0 : goal.returns-then-len-eq0
returns-then-len-eq0 c =
    let head = c.in_ok-match_head.ensures in
    let reads = all_looked_at c.args.clause.now c.args.arguments.now _ _ head.stands _ _ head.looked c.tests-2.ensures c.in_ok-says_no.ensures.looked in
    record {
      outcome = all_accept c.args.clause.now c.args.arguments.now (value_at c.args.store.now.held) _ head.stands head.clashes c.if-met.false _ head.wanted
          (omega (arith, c.if-len-gt0.false, c.len.ensures)) c.tests-2.ensures c.in_ok-says_no.ensures.no
          c.if-says_no.false _ c.in_ok-says_no.ensures.wanted (omega (arith, c.if-len-eq0.true, c.len-2.ensures)) _ reads;
      looked = reads;
    }

pub returns : goal.returns
returns c =
    let head = c.in_ok-match_head.ensures in
    record {
      outcome = guard_waits c.args.clause.now c.args.arguments.now (value_at c.args.store.now.held) _ head.stands head.clashes c.if-met.false _ head.wanted
          (omega (arith, c.if-len-gt0.false, c.len.ensures)) c.tests-2.ensures c.in_ok-says_no.ensures.no
          c.if-says_no.false _ c.in_ok-says_no.ensures.wanted (omega (arith, c.if-len-eq0.false, c.len-2.ensures));
      looked = all_looked_at c.args.clause.now c.args.arguments.now _ _ head.stands _ _ head.looked c.tests-2.ensures c.in_ok-says_no.ensures.looked;
    }
