use Rattle.ghc_hooks.proofs.FoundFace.{hooks_next}
use Rattle.ghc_hooks.proofs.face.hooks.Hooks.put_all.Goals as goal

pub loop-x-preserved : goal.loop-x-preserved
loop-x-preserved c = hooks_next c.args.self.now c.loop-x.self c.put.new.self c.args.xs.now c.loop-x.x-index (record { step = 0; place = 0 }) c.loop-x-test.true c.args.goal c.loop-x.invariant c.in_ok-put.ensures
