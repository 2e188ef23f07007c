use Rattle.std.proofs.Common.{inl, inr}
use Rattle.ghc_hooks.proofs.LookingAll.{besides_next, taken_back}
use Rattle.ghc_hooks.proofs.looks.Looks.add_all.Goals as goal

pub loop-x-init : goal.loop-x-init
loop-x-init c y h = (λ k. inl k, λ k. elim k [ inl o ↦ o | inr p ↦ absurd p.0 ])

pub loop-x-preserved : goal.loop-x-preserved
loop-x-preserved c = besides_next c.args.self.now c.loop-x.self c.add.new.self c.args.xs.now c.loop-x.x-index (record { step = 0; place = 0 }) c.args.goal c.loop-x-test.true c.loop-x.invariant c.in_default.ensures.ok

pub returns-in-Err-clause-err : goal.returns-in-Err-clause-err
returns-in-Err-clause-err c =
    taken_back c.args.self.now c.loop-x.self c.add.new.self c.remove_all.new.self c.args.xs.now c.loop-x.x-index c.args.goal c.requires c.loop-x.invariant c.in-Err.ensures.err c.remove_all.ensures
