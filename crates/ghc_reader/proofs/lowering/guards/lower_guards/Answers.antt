use Rattle.ghc_reader.proofs.ClausesLowered.{guards_say, guards_meet}
use Rattle.ghc_reader.proofs.lowering.guards.lower_guards.Goals as goal

pub loop-test-preserved : goal.loop-test-preserved
loop-test-preserved c =
    let u = c.in_ok-lower_guard in
    record {
      says = guards_say c.args.tests.now c.loop-test.test-index c.test-item.result c.loop-test.scope c.lower_guard.new.scope c.loop-test.lowered.items c.push.new.self.items u.field-0 c.loop-test-test.true c.test-item.is c.in_ok-push.ensures.items c.loop-test.invariant.says u.ensures.says u.ensures.met;
      met = guards_meet c.args.scope.now c.loop-test.scope c.lower_guard.new.scope c.loop-test.lowered.items c.push.new.self.items u.field-0 c.in_ok-push.ensures.items c.loop-test.invariant.met u.ensures.met;
    }
