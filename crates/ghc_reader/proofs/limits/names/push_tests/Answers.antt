use Rattle.ghc_reader.proofs.Words.{test_view, names_of_test}
use Rattle.ghc_reader.proofs.AmountLemmas.{push_more}
use Rattle.ghc_reader.proofs.limits.names.push_tests.Goals as goal

pub loop-test-preserved : goal.loop-test-preserved
loop-test-preserved c = push_more names_of_test test_view c.args.tests.now c.loop-test.test-index c.test-item.result _ _ _ c.loop-test-test.true c.test-item.is c.loop-test.invariant c.in_ok-push_test.ensures
