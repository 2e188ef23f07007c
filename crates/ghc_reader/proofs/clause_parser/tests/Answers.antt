use Rattle.ghc_reader.proofs.Words.{length, [], ◌∷◌, ◌++◌, ap, ◌∙◌, arith}
use Rattle.ghc_reader.proofs.GoalLoops.{tests_one, tests_more}
use Rattle.ghc_reader.proofs.TestFaults as faults
use Rattle.ghc_reader.proofs.ClauseFounds as founds
use Rattle.ghc_reader.proofs.TermFounds.{passes}
use Rattle.ghc_reader.proofs.clause_parser.tests.Goals as goal

pub returns-in_err-first-clause-fault : goal.returns-in_err-first-clause-fault
returns-in_err-first-clause-fault c =
    passes c.from_residual.result c.in_err-first.field-0.0 _ _ c.from_residual.ensures.1 (faults.first_in_tests c.args.tokens.now) c.in_err-first.ensures.fault

pub loop-after-init : goal.loop-after-init
loop-after-init c = record {
  read = tests_one c.args.tokens.now c.in_ok-first.rest.now c.push.new.self.items c.in_ok-first.first (c.in_ok-push.ensures.items ∙ ap (λ l. l ++ c.in_ok-first.first ∷ []) c.new-all.ensures.items) c.in_ok-first.ensures.found;
  shorter = c.in_ok-first.ensures.shorter;
}

pub returns-in_err-next-clause-fault : goal.returns-in_err-next-clause-fault
returns-in_err-next-clause-fault c =
    passes c.from_residual-in_err-next.result c.in_err-next.field-0.0 _ _ c.from_residual-in_err-next.ensures.1
    (λ n f. rw (c.loop-after.invariant.read.spelled, c.in-Some.ensures) (faults.next_in_tests c.loop-after.invariant.read.so_far c.in-Some.after.now n f))
    c.in_err-next.ensures.fault

pub loop-after-preserved : goal.loop-after-preserved
loop-after-preserved c = record {
  read = tests_more c.args.tokens.now c.loop-after.rest.now c.in-Some.after.now c.in_ok-next.behind.now c.loop-after.all.items c.push-in-Some.new.self.items c.in_ok-next.next c.loop-after.invariant.read c.in-Some.ensures c.in_ok-push-2.ensures.items c.in_ok-next.ensures.found;
  shorter = omega (arith, c.in_ok-next.ensures.shorter, ap length c.in-Some.ensures);
}

pub returns-clause-found : goal.returns-clause-found
returns-clause-found c = founds.found_tests c.args.tokens.now c.loop-after.rest.now _ c.loop-after.invariant.read c.in_default.ensures
