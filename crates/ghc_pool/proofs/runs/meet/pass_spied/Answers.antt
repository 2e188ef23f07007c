use Rattle.ghc_pool.proofs.Failures.{tried_met, waiting_not_failed}
use Rattle.ghc_pool.proofs.runs.meet.pass_spied.Goals as goal

pub returns-then-is_noted_waiting-clause-met : goal.returns-then-is_noted_waiting-clause-met
returns-then-is_noted_waiting-clause-met c spies root unmet =
    let before = c.args.core.now in
    let after = c.pass-met.new.core in
    tried_met spies root before.world after.world c.args.goal before.notes after.notes c.pass-met.result c.pass-met.ensures.world c.pass-met.ensures.kept c.pass-met.ensures.tried unmet
    (λ _ _. waiting_not_failed after.notes c.args.goal (c.is_noted_waiting.ensures.0 c.if-is_noted_waiting.true))
