use Rattle.ghc_core.proofs.Words.{ap, ◌∙◌, length, Effect, Binds, ConsumedToTry, IsBound, IsGiven}
use Rattle.ghc_records.specs.Replay.{MakesGoal}
use Rattle.ghc_core.proofs.Carried.{carried, none_stays}
use Rattle.ghc_core.proofs.changes.carrying.carry_back.Goals as goal

pub mark_consumed-requires-clause-new : goal.mark_consumed-requires-clause-new
mark_consumed-requires-clause-new c g consumed =
    none_stays (IsGiven c.number.result 0 c.made.result) (IsBound c.binds.result.now) c.args.tries.now c.drop_made.new.tries c.wake_at_bound.new.tries c.drop_made.ensures.dropped c.wake_at_bound.ensures.notes g
    (c.requires.new g consumed)

pub returns-clause-carried : goal.returns-clause-carried
returns-clause-carried c =
    let r = c.args.step.now in
    let binds = c.binds.ensures ∙ ap (λ (e : Effect). e.binds) c.effect-2.ensures in
    let made = c.made.ensures ∙ ap (λ (e : Effect). length e.makes) c.effect.ensures in
    carried (MakesGoal r) (Binds r) (ConsumedToTry r) c.args.tries.now c.drop_made.new.tries c.wake_at_bound.new.tries c.mark_consumed.new.tries
    (rw (c.number.ensures, made) at c.drop_made.ensures.dropped) (rw binds at c.wake_at_bound.ensures.notes)
    (rw binds at c.wake_at_bound.ensures.untried) c.mark_consumed.ensures.marked
