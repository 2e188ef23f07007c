use Rattle.ghc_pool.proofs.Words.{[], refl, subst, arith, World, Runs, CanGoOn, at_start}
use Rattle.ghc_pool.proofs.Taking.{takes_tried}
use Rattle.ghc_pool.proofs.runs.alone.run.Goals as goal

pub go_on-requires : goal.go_on-requires
go_on-requires c = c.in-Ok.ensures.ready

pub returns-in-Ok-clause-runs : goal.returns-in-Ok-clause-runs
returns-in-Ok-clause-runs c =
    subst (λ (w : World). Runs (Unit {0}) 1 c.args.spies.now c.args.root c.args.limit w c.go_on.new.core.world c.go_on.new.core.notes c.go_on.result) c.in-Ok.ensures.world c.go_on.ensures

pub returns-in-Ok-clause-stopped : goal.returns-in-Ok-clause-stopped
returns-in-Ok-clause-stopped c stuck = absurd (stuck (subst (CanGoOn c.args.spies.now c.args.root) c.in-Ok.ensures.world c.in-Ok.ensures.ready))

pub returns-in-Err-clause-runs : goal.returns-in-Err-clause-runs
returns-in-Err-clause-runs c = record {
  before = c.args.core.now.notes;
  steps = [];
  taken = takes_tried 1 c.args.spies.now c.args.root c.args.core.now.world c.args.core.now.world c.pause.new.core.world c.args.core.now.notes c.args.core.now.notes c.pause.new.core.notes [] at_start c.in-Err.ensures.world c.in-Err.ensures.kept;
  count = refl;
  few = omega arith;
  reason = c.in-Err.ensures.stop c.args.limit 0;
}
