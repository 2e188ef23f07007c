use Rattle.ghc_reader.proofs.Words.{take, test_views, variables_of_guards, Each, SaysGuard, MeetsAll}
use Rattle.ghc_reader.proofs.lowering.guards.lower_guards.Given as goal

abbrev pub invariant-loop-test : goal.invariant-loop-test
invariant-loop-test l = record {
  says : Each (SaysGuard l.scope) (test_views (take l.test-index l.tests)) l.lowered.items;
  met : MeetsAll l.initial.scope (variables_of_guards l.lowered.items) l.scope;
}
