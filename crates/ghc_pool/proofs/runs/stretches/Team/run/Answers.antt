use Rattle.ghc_pool.proofs.Words.{◌≡◌, ℕ, [], refl, subst, arith, World, Runs, CanGoOn, at_start}
use Rattle.ghc_pool.proofs.Taking.{takes_tried}
use Rattle.ghc_pool.proofs.runs.stretches.Team.run.Goals as goal

pub returns-then-count-eq1-clause-runs : goal.returns-then-count-eq1-clause-runs
returns-then-count-eq1-clause-runs g c =
    let one : 1 ≡ c.args.self.now.workers = omega (arith, c.if-count-eq1.true, c.count.ensures.count) in
    subst (λ (n : ℕ). Runs (Unit {0}) n c.args.self.now.spies.now c.args.root c.args.limit c.args.core.world c.run-report.new.core.world c.run-report.new.core.notes c.run-report.result) one c.run-report.ensures.runs

pub go_on-requires-clause-several : goal.go_on-requires-clause-several
go_on-requires-clause-several g c κs within one = omega (arith, c.if-count-eq1.false, c.count.ensures.count, one)

pub go_on-requires-clause-can : goal.go_on-requires-clause-can
go_on-requires-clause-can g c κs within = c.in-Ok.ensures.ready

pub go_on-requires-clause-asked : goal.go_on-requires-clause-asked
go_on-requires-clause-asked g c κs within h i = (c.in-Ok.ensures.each h i).0

pub returns-in-Ok-clause-runs : goal.returns-in-Ok-clause-runs
returns-in-Ok-clause-runs g c =
    let team = c.args.self.now in
    subst (λ (w : World). Runs (Unit {0}) team.workers team.spies.now c.args.root c.args.limit w c.go_on.result.0.world c.go_on.result.0.notes c.go_on.result.1) c.in-Ok.ensures.world c.go_on.ensures

pub returns-in-Ok-clause-stopped : goal.returns-in-Ok-clause-stopped
returns-in-Ok-clause-stopped g c stuck = absurd (stuck (subst (CanGoOn c.args.self.now.spies.now c.args.root) c.in-Ok.ensures.world c.in-Ok.ensures.ready))

pub returns-in-Err-clause-runs : goal.returns-in-Err-clause-runs
returns-in-Err-clause-runs g c =
    let team = c.args.self.now in
    record {
      before = c.args.core.notes;
      steps = [];
      taken = takes_tried team.workers team.spies.now c.args.root c.args.core.world c.args.core.world c.pause.new.core.world c.args.core.notes c.args.core.notes c.pause.new.core.notes [] at_start c.in-Err.ensures.world c.in-Err.ensures.kept;
      count = refl;
      few = omega arith;
      reason = c.in-Err.ensures.stop c.args.limit 0;
    }
