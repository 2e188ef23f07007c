use Rattle.ghc_match.proofs.Words.{arith, inl, value_at}
use Rattle.ghc_match.proofs.TryClause.{all_looked_at, head_waits, guard_refuses, guard_waits, all_accept}
use Rattle.ghc_match.proofs.until_no.lay_until_no.Goals as goal

pub returns-then-met : goal.returns-then-met
returns-then-met c = inl (c.in_ok-match_until_clash.ensures.clashes.0 c.if-met.true)

pub returns-then-len-gt0 : goal.returns-then-len-gt0
returns-then-len-gt0 c =
    let head = c.in_ok-match_until_clash.ensures in
    let fits = c.if-met.false in
    (head_waits c.args.clause.now c.args.arguments.now (value_at c.args.store.now.held) _ (head.stands fits) head.clashes fits _ (head.wanted fits)
    (omega (arith, c.if-len-gt0.true, c.len.ensures))).1

pub returns-then-says_no : goal.returns-then-says_no
returns-then-says_no c =
    let head = c.in_ok-match_until_clash.ensures in
    let fits = c.if-met.false in
    guard_refuses c.args.clause.now c.args.arguments.now (value_at c.args.store.now.held) _ (head.stands fits) head.clashes fits _ (head.wanted fits)
    (omega (arith, c.if-len-gt0.false, c.len.ensures)) c.tests.ensures c.in_ok-says_no.ensures.no c.if-says_no.true

pub returns-then-len-eq0 : goal.returns-then-len-eq0
returns-then-len-eq0 c =
    let head = c.in_ok-match_until_clash.ensures in
    let guard = c.in_ok-says_no.ensures in
    let fits = c.if-met.false in
    let silent = c.if-says_no.false in
    all_accept c.args.clause.now c.args.arguments.now (value_at c.args.store.now.held) _ (head.stands fits) head.clashes fits _ (head.wanted fits)
    (omega (arith, c.if-len-gt0.false, c.len.ensures)) c.tests.ensures guard.no silent _ (guard.wanted silent) (omega (arith, c.if-len-eq0.true, c.len-2.ensures)) _
    (all_looked_at c.args.clause.now c.args.arguments.now _ _ (head.stands fits) _ _ (head.looked fits) c.tests.ensures (guard.looked silent))

pub returns : goal.returns
returns c =
    let head = c.in_ok-match_until_clash.ensures in
    let guard = c.in_ok-says_no.ensures in
    let fits = c.if-met.false in
    let silent = c.if-says_no.false in
    (guard_waits c.args.clause.now c.args.arguments.now (value_at c.args.store.now.held) _ (head.stands fits) head.clashes fits _ (head.wanted fits)
    (omega (arith, c.if-len-gt0.false, c.len.ensures)) c.tests.ensures guard.no silent _ (guard.wanted silent) (omega (arith, c.if-len-eq0.false, c.len-2.ensures))).1
