use Rattle.ghc_match.proofs.Words.{◌++◌, ◌∷◌, [], false, take, sym, ap, ◌∙◌, subst, take_more, in_place, VarName, value_at, Test, variables_of_test, Wants, StandsAndEnds, Gains, PassedFrom, IsSaid, OneSaysNo}
use Rattle.ghc_match.proofs.GainsLemmas.{OneHas, gains_nothing, gains_more}
use Rattle.ghc_match.proofs.GuardingLemmas.{no_more_other}
use Rattle.ghc_match.proofs.until_no.try_until_no.Goals as goal

pub loop-test-init : goal.loop-test-init
loop-test-init c = record {
  no = λ g i. absurd i;
  wants = gains_nothing (λ (g : Test) x. Wants (StandsAndEnds c.args.stands.now (value_at c.args.store.now.held)) (variables_of_test g) x) c.args.wanted.now;
  looks = gains_nothing (λ (g : Test) x. PassedFrom c.args.stands.now (value_at c.args.store.now.held) (variables_of_test g) x) c.args.looked.now;
}

pub loop-test-preserved : goal.loop-test-preserved
loop-test-preserved c =
    let m = c.args.stands.now in
    let S = value_at c.args.store.now.held in
    let E = StandsAndEnds m S in
    let wants_of = λ (g : Test) (x : VarName). Wants E (variables_of_test g) x in
    let passed_by = λ (g : Test) (x : VarName). PassedFrom m S (variables_of_test g) x in
    let g = c.test-item.result in
    let old = take c.loop-test.test-index c.args.tests.now in
    let more = ap (λ z. old ++ z ∷ []) c.test-item.is ∙ sym (take_more c.args.tests.now c.loop-test.test-index g c.loop-test-test.true) in
    record {
      no = subst (λ l. OneSaysNo E l false) more (no_more_other E false old g c.in_ok-try_test.field-0 c.loop-test.invariant.no c.in_ok-try_test.ensures.says c.in_default.not-No);
      wants = subst (λ l. Gains c.args.wanted.now c.try_test.new.wanted (OneHas wants_of l)) more
          (gains_more wants_of c.args.wanted.now c.loop-test.wanted c.try_test.new.wanted old g c.loop-test.invariant.wants c.in_ok-try_test.ensures.wanted);
      looks = subst (λ l. Gains c.args.looked.now c.try_test.new.looked (OneHas passed_by l)) more
          (gains_more passed_by c.args.looked.now c.loop-test.looked c.try_test.new.looked old g c.loop-test.invariant.looks c.in_ok-try_test.ensures.looked);
    }

pub returns-in-No-clause-no : goal.returns-in-No-clause-no
returns-in-No-clause-no c =
    let E = StandsAndEnds c.args.stands.now (value_at c.args.store.now.held) in
    let g = c.test-item.result in
    (g, in_place c.args.tests.now c.loop-test.test-index g c.loop-test-test.true c.test-item.is, subst (IsSaid E g) c.in-No.is c.in_ok-try_test.ensures.says)
