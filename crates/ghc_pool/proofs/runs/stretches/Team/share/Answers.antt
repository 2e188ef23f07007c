use Rattle.ghc_pool.proofs.Words.{[], sym, subst, arith, Core, IsStanding, at_start, Covers, TakesAtMost}
use Rattle.ghc_pool.proofs.runs.stretches.Team.share.Goals as goal

pub returns-in_default : goal.returns-in_default
returns-in_default g c = ([], at_start, omega arith)

pub work_off-requires-clause-count : goal.work_off-requires-clause-count
work_off-requires-clause-count g c κs within =
    let same = c.in-Ok-new.ensures.passes in
    let is = c.passes.ensures.count in
    let some = c.passes.ensures.some in
    (omega (arith, same, is), omega (arith, same, is, some.0), omega (arith, same, is, some.1))

pub work_off-requires-clause-covers : goal.work_off-requires-clause-covers
work_off-requires-clause-covers g c κs within = subst (λ (o : Core). Covers c.args.root o.world c.in-Ok.scope) (sym c.in-Ok-new.ensures.value) c.in-Ok.ensures

pub work_off-requires-clause-standing : goal.work_off-requires-clause-standing
work_off-requires-clause-standing g c κs within = subst (λ (o : Core). IsStanding o.world) (sym c.in-Ok-new.ensures.value) c.stands.ensures.standing

pub returns-in-Ok-new : goal.returns-in-Ok-new
returns-in-Ok-new g c =
    let team = c.args.self.now in
    subst (λ (o : Core). TakesAtMost c.args.most team.workers team.spies.now c.args.root o.world o.notes c.work_off.result.world c.work_off.result.notes) c.in-Ok-new.ensures.value c.work_off.ensures

pub returns : goal.returns
returns g c =
    let team = c.args.self.now in
    subst (λ (o : Core). TakesAtMost c.args.most team.workers team.spies.now c.args.root c.args.core.world c.args.core.notes o.world o.notes) (sym c.in-Err.ensures.refused) ([], at_start, omega arith)
