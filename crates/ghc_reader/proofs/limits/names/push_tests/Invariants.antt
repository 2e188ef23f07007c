use Rattle.ghc_reader.proofs.Words.{◌≡◌, ◌++◌, map, take, flat_map, test_view, names_of_test}
use Rattle.ghc_reader.proofs.limits.names.push_tests.Given as goal

abbrev pub invariant-loop-test : goal.invariant-loop-test
invariant-loop-test l = l.out.items ≡ l.initial.out.items ++ flat_map names_of_test (map test_view (take l.test-index l.tests))
