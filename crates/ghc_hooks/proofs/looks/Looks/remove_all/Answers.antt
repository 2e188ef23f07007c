use Rattle.std.proofs.Common.{subst}
use Rattle.std.proofs.lemmas.List.{take_all}
use Rattle.ghc_hooks.proofs.LookingAll.{HasWithout, without_next}
use Rattle.ghc_hooks.proofs.looks.Looks.remove_all.Goals as goal

pub loop-x-preserved : goal.loop-x-preserved
loop-x-preserved c = without_next c.args.self.now c.loop-x.self c.remove.new.self c.args.xs.now c.loop-x.x-index (record { step = 0; place = 0 }) c.args.goal c.loop-x-test.true c.loop-x.invariant c.remove.ensures

pub returns : goal.returns
returns c = subst (λ xs. HasWithout c.args.self.now xs c.args.goal c.loop-x.self) (take_all c.loop-x.x-index c.args.xs.now c.loop-x-test.false) c.loop-x.invariant
