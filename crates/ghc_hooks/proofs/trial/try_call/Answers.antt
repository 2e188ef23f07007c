use Rattle.ghc_hooks.proofs.Words.{length, take, take_all, slice_index_or, refl, subst, arith, MatchOption-at_some, value_at, in_at, IsClause, numbered_for, take_number, some_there}
use Rattle.ghc_hooks.proofs.Hearing.{IsHeard, heard_nothing, heard_more}
use Rattle.ghc_hooks.proofs.Trying.{awaited_is_looked_at, heard_note}
use Rattle.ghc_hooks.proofs.trial.try_call.Goals as goal

pub loop-number-init : goal.loop-number-init
loop-number-init c =
    let n = c.nothing-heard.ensures in
    heard_nothing c.args.program.now c.args.arguments.now (value_at c.args.store.now.held) c.nothing-heard.result n.accepts n.awaited n.looked

pub unwrap-clause-requires : goal.unwrap-clause-requires
unwrap-clause-requires c =
    let n = numbered_for c.args.program.now c.args.name.now (length c.args.arguments.now) c.clauses_for-number-items.result.now
    c.clauses_for-number-items.ensures c.loop-number.number-index _ c.loop-number-test.true refl in
    some_there (IsClause c.args.program.now _) c.clause.result c.clause.ensures.none n.0 n.1

pub hear-requires : goal.hear-requires
hear-requires c = grind (arith, in_at)

pub loop-number-preserved : goal.loop-number-preserved
loop-number-preserved c =
    let P = c.args.program.now in
    let ts = c.args.arguments.now in
    let s = value_at c.args.store.now.held in
    let ks = c.clauses_for-number-items.result.now in
    let i = c.loop-number.number-index in
    let k = slice_index_or ks i 0 in
    let is = MatchOption-at_some _ _ c.unwrap-clause.result c.unwrap-clause.ensures c.clause.ensures.found in
    let said = c.in_ok-hear.ensures in
    subst (λ l. IsHeard P ts s l c.hear.new.self) (take_number ks i c.loop-number-test.true)
    (heard_more P ts s c.loop-number.heard c.hear.new.self (take i ks) k c.unwrap-clause.result.now is c.loop-number.invariant said.accepts said.awaited said.looked)

pub into_note-requires : goal.into_note-requires
into_note-requires c =
    let ks = c.clauses_for-number-items.result.now in
    let all = rw (take_all c.loop-number.number-index ks (omega (arith, c.loop-number-test.false))) at c.loop-number.invariant in
    awaited_is_looked_at c.args.program.now c.clauses.ensures.program c.args.store.now.held c.acyclic.ensures c.args.name.now c.args.arguments.now ks
    c.clauses_for-number-items.ensures c.loop-number.heard all

pub returns : goal.returns
returns c =
    let ks = c.clauses_for-number-items.result.now in
    let all = rw (take_all c.loop-number.number-index ks (omega (arith, c.loop-number-test.false))) at c.loop-number.invariant in
    let e = c.into_note.ensures in
    heard_note c.args.program.now c.clauses.ensures.program c.args.store.now.held c.acyclic.ensures c.args.name.now c.args.arguments.now ks
    c.clauses_for-number-items.ensures c.loop-number.heard all c.into_note.result e.accepted e.waits e.refused e.looked
