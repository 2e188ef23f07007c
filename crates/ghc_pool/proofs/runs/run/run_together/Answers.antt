use Rattle.ghc_pool.proofs.Words.{◌≡◌, sym, subst, Mode, root_of, RunsIn, CanGoOn}
use Rattle.ghc_pool.proofs.runs.run.run_together.Goals as goal

pub returns-in-Leap-clause-ran : goal.returns-in-Leap-clause-ran
returns-in-Leap-clause-ran g c =
    subst (λ (m : Mode). RunsIn m (Unit {0}) c.args.workers c.args.spies.now c.args.core.world c.run.result.0.world c.run.result.0.notes c.run.result.1) (sym c.in-Leap.is) c.run.ensures.runs

pub returns-in-Leap-clause-stopped : goal.returns-in-Leap-clause-stopped
returns-in-Leap-clause-stopped g c = subst (λ (m : Mode). ¬ CanGoOn c.args.spies.now (root_of m) c.args.core.world → c.run.result.1.added ≡ 0) (sym c.in-Leap.is) c.run.ensures.stopped

pub returns-in-Skip-clause-ran : goal.returns-in-Skip-clause-ran
returns-in-Skip-clause-ran g c =
    let run = c.run-in-Skip in
    subst (λ (m : Mode). RunsIn m (Unit {0}) c.args.workers c.args.spies.now c.args.core.world run.result.0.world run.result.0.notes run.result.1) (sym c.in-Skip.is) run.ensures.runs

pub returns-in-Skip-clause-stopped : goal.returns-in-Skip-clause-stopped
returns-in-Skip-clause-stopped g c =
    let run = c.run-in-Skip in
    subst (λ (m : Mode). ¬ CanGoOn c.args.spies.now (root_of m) c.args.core.world → run.result.1.added ≡ 0) (sym c.in-Skip.is) run.ensures.stopped

pub returns-in-Settle-clause-ran : goal.returns-in-Settle-clause-ran
returns-in-Settle-clause-ran g c =
    let done = c.settle.ensures in
    subst (λ (m : Mode). RunsIn m (Unit {0}) c.args.workers c.args.spies.now c.args.core.world c.settle.result.0.world c.settle.result.0.notes c.settle.result.1) (sym c.in-Settle.is) (done.world, done.none, done.settled)

pub returns-in-Settle-clause-stopped : goal.returns-in-Settle-clause-stopped
returns-in-Settle-clause-stopped g c stuck = c.settle.ensures.none
