use Rattle.ghc_reader.proofs.Words.{◌≡◌, ◌++◌, vec_len, reverse, plains, goal_views, test_views}
use Rattle.ghc_reader.proofs.clause_parser.as_body.Given as goal

abbrev pub invariant-loop-test : goal.invariant-loop-test
invariant-loop-test l = test_views l.fn.tests.items ≡ test_views l.tests.items ++ plains (goal_views (reverse l.goals.items))

abbrev pub decreases-loop-test : goal.decreases-loop-test
decreases-loop-test l = vec_len l.tests
