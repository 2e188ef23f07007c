use Rattle.ghc_flat.proofs.Words.{In, Test, variables_of_test, MakeTests, AreAmong}
use Rattle.ghc_flat.proofs.guards.tests_of_guards.Given as goal

abbrev pub invariant-loop-guard : goal.invariant-loop-guard
invariant-loop-guard l = MakeTests l.yielded l.tests.items × ((t : Test) → In t l.tests.items → AreAmong l.count (variables_of_test t))
