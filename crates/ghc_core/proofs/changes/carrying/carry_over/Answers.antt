use Rattle.ghc_core.proofs.Words.{◌≡◌, Some, length, ap, ◌∙◌, arith, Effect, Binds, Consumed, MadeToTry, IsBound}
use Rattle.ghc_core.proofs.Carried.{carried, none_stays}
use Rattle.ghc_core.proofs.changes.carrying.carry_over.Goals as goal

pub mark_made-requires-clause-new : goal.mark_made-requires-clause-new
mark_made-requires-clause-new c g given =
    let made = c.made.ensures ∙ ap (λ (e : Effect). length e.makes) c.effect-effect.ensures in
    none_stays (λ h. c.goal.result ≡ Some h) (IsBound c.binds.result.now) c.args.tries.now c.drop_named.new.tries c.wake_at_bound.new.tries c.drop_named.ensures.dropped c.wake_at_bound.ensures.notes g
    (c.requires.new g (given.0 ∙ c.number.ensures, given.1, omega (arith, given.2, made)))

pub returns : goal.returns
returns c =
    let binds = c.binds.ensures ∙ ap (λ (e : Effect). e.binds) c.effect-effect.ensures in
    let makes = c.makes.ensures ∙ ap (λ (e : Effect). e.makes) c.effect-effect.ensures in
    carried (Consumed c.args.step.now) (Binds c.args.step.now) (MadeToTry c.args.step.now) c.args.tries.now c.drop_named.new.tries c.wake_at_bound.new.tries c.mark_made.new.tries
    (rw c.goal.ensures at c.drop_named.ensures.dropped) (rw binds at c.wake_at_bound.ensures.notes) (rw binds at c.wake_at_bound.ensures.untried)
    (rw (c.number.ensures, makes) at c.mark_made.ensures)
