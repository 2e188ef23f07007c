use Rattle.ghc_match.proofs.Words.{false, take, value_at, StandsAndEnds, Gains, OneSaysNo, OneWants, GuardLooksAt}
use Rattle.ghc_match.proofs.until_no.try_until_no.Given as goal

abbrev pub invariant-loop-test : goal.invariant-loop-test
invariant-loop-test l = record {
  no : OneSaysNo (StandsAndEnds l.stands (value_at l.store.held)) (take l.test-index l.tests) false;
  wants : Gains l.initial.wanted l.wanted (OneWants (StandsAndEnds l.stands (value_at l.store.held)) (take l.test-index l.tests));
  looks : Gains l.initial.looked l.looked (GuardLooksAt l.stands (value_at l.store.held) (take l.test-index l.tests));
}
