use Rattle.ghc_console.proofs.CitedWords.{err_from_is_err_and, ◌≡◌, ◌∙◌, ap, refl, sym, subst, lent, next_in}
use Rattle.ghc_console.proofs.ListedGoals.{Telling, telling_broken, telling_end, telling_on, telling_start}
use Rattle.ghc_console.proofs.WriteLoop.{reads_on, reads_start}
use Rattle.ghc_console.proofs.replies.goal_listing.write_each.Goals as goal

pub loop-name-init : goal.loop-name-init
loop-name-init g c =
    let d = g.D.Device in
    let gives : c.into_iter-name-iterator.result ≡ c.args.goals.now.entries = c.into_iter-name-iterator.ensures.into_iter_gives.0 in
    let all = lent c.args.goals.now.entries in
    (subst (λ es. Telling c.args.core.now.world all (lent es) (d.written c.args.device.now) (d.written c.args.device.now)) (sym gives) (telling_start c.args.core.now.world all _), reads_start _, refl)

pub write_goal-requires-clause-there : goal.write_goal-requires-clause-there
write_goal-requires-clause-there g c = c.requires.there (c.in-Some.name.now, c.in-Some.goal.now.now) (next_in _ c.loop-name.invariant.0.done _ _ _ c.loop-name.invariant.0.whole c.in-Some.ensures.steps)

pub loop-name-preserved : goal.loop-name-preserved
loop-name-preserved g c =
    let d = g.D.Device in
    let w = c.args.core.now.world in
    let all = lent c.args.goals.now.entries in
    let here = subst (λ es. Telling w all (lent es) (d.written c.args.device.now) (d.written c.loop-name.device)) c.in-Some.ensures.steps c.loop-name.invariant.0 in
    let told = c.in_ok-write_goal.ensures.told in (
      telling_on w all _ _ _ _ _ told.0 here told.1 told.2,
      reads_on _ _ _ c.loop-name.invariant.1 c.in_ok-write_goal.ensures.writes.reads,
      c.in_ok-write_goal.ensures.writes.count ∙ c.loop-name.invariant.2,
    )

pub returns-in_err-write_goal-clause-told : goal.returns-in_err-write_goal-clause-told
returns-in_err-write_goal-clause-told g c =
    let d = g.D.Device in
    let w = c.args.core.now.world in
    let all = lent c.args.goals.now.entries in
    let here = subst (λ es. Telling w all (lent es) (d.written c.args.device.now) (d.written c.loop-name.device)) c.in-Some.ensures.steps c.loop-name.invariant.0 in
    let told = c.in_err-write_goal.ensures.told in
    rw (err_from_is_err_and c.from_residual.result c.from_residual.ensures.1).1 (telling_broken w all _ _ _ _ _ told.0 here told.1 told.2.0 told.2.1)

pub returns-clause-told : goal.returns-clause-told
returns-clause-told g c = telling_end c.args.core.now.world _ _ _ _ (ap lent c.in-None.ensures.steps.0) c.loop-name.invariant.0
