use Rattle.ghc_reader.proofs.Words.{◌≡◌, map, take, test_view, largest, widest_test}
use Rattle.ghc_reader.proofs.limits.arguments.widest_tests.Given as goal

abbrev pub invariant-loop-test : goal.invariant-loop-test
invariant-loop-test l = l.most ≡ largest widest_test (map test_view (take l.test-index l.tests))
