use Rattle.ghc_match.proofs.Words.{take, value_at, StandsAndEnds, Gains, OneSaysNo, OneWants, GuardLooksAt}
use Rattle.ghc_match.proofs.guard.try_guard.Given as goal

abbrev pub invariant-loop-test : goal.invariant-loop-test
invariant-loop-test l = record {
  no : OneSaysNo (StandsAndEnds l.stands (value_at l.store.held)) (take l.test-index l.tests) l.says_no;
  wants : Gains l.initial.wanted l.wanted (OneWants (StandsAndEnds l.stands (value_at l.store.held)) (take l.test-index l.tests));
  looks : Gains l.initial.looked l.looked (GuardLooksAt l.stands (value_at l.store.held) (take l.test-index l.tests));
}
