use Rattle.ghc_match.proofs.Words.{arith, ◌≡◌, true, false, sym, ◌∙◌, subst, Some, None, value_at, StandsAndEnds, TellsFirstNo}
use Rattle.ghc_match.proofs.RefusalSearch.{no_mismatch, waiting_not, head_fits, none_no, refuses_by_test, refuses_by_value}
use Rattle.ghc_match.proofs.refusal.test_place.Goals as goal

pub returns-then-len-gt0 : goal.returns-then-len-gt0
returns-then-len-gt0 c =
    let none = c.requires.none in
    waiting_not c.args.clause.now c.args.arguments.now (value_at c.args.store.now.held) none _ c.in_ok-match_head.ensures.wanted (omega (arith, c.if-len-gt0.true, c.len.ensures))

pub returns-in_default : goal.returns-in_default
returns-in_default c =
    let S = value_at c.args.store.now.held in
    let E = StandsAndEnds c.match_head.new.met.stands S in
    let none = c.requires.none in
    let said = subst (λ gs. TellsFirstNo E gs None) c.tests.ensures (rw c.in_default.is at c.in_ok-number.ensures) in
    none_no c.args.clause.now c.args.arguments.now S _ c.in_ok-match_head.ensures.stands (no_mismatch c.args.clause.now c.args.arguments.now S none) said

pub returns-then-branch : goal.returns-then-branch
returns-then-branch c =
    let S = value_at c.args.store.now.held in
    let E = StandsAndEnds c.match_head.new.met.stands S in
    let head = c.in_ok-match_head.ensures in
    let none = c.requires.none in
    let fits = head_fits c.args.clause.now c.args.arguments.now S none _ head.wanted (omega (arith, c.if-len-gt0.false, c.len.ensures)) in
    let said = subst (λ gs. TellsFirstNo E gs (Some (c.in-Some.number, c.in-Some.test))) c.tests.ensures (rw c.in-Some.is at c.in_ok-number.ensures) in
    refuses_by_test c.args.clause.now c.args.arguments.now S _ head.stands fits _ said.0 _ said.1 said.2 said.3 (c.in_ok-has_values.ensures.0 c.if-branch.true)

pub returns : goal.returns
returns c =
    let S = value_at c.args.store.now.held in
    let E = StandsAndEnds c.match_head.new.met.stands S in
    let head = c.in_ok-match_head.ensures in
    let none = c.requires.none in
    let fits = head_fits c.args.clause.now c.args.arguments.now S none _ head.wanted (omega (arith, c.if-len-gt0.false, c.len.ensures)) in
    let said = subst (λ gs. TellsFirstNo E gs (Some (c.in-Some.number, c.in-Some.test))) c.tests.ensures (rw c.in-Some.is at c.in_ok-number.ensures) in
    refuses_by_value c.args.clause.now c.args.arguments.now S _ head.stands fits _ said.0 _ said.1 said.2 said.3
    (λ v. let clash : false ≡ true = sym c.if-branch.false ∙ c.in_ok-has_values.ensures.1 v in cc)
