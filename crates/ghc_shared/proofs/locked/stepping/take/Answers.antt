use Rattle.ghc_shared.proofs.Words.{◌≡◌, refl, ap, inl, inr, stepped, Fault}
use Rattle.ghc_core.specs.Events as events
use Rattle.ghc_core.specs.declared.changes.Change.TheVariants.{Comes as comes}
use Rattle.ghc_core.specs.declared.changes.Coming.{Coming}
use Rattle.ghc_shared.proofs.locked.stepping.take.Goals as goal

pub returns-then-not-room-clause-taken : goal.returns-then-not-room-clause-taken
returns-then-not-room-clause-taken c = inr (refl, refl)

pub returns-then-not-room-clause-moves : goal.returns-then-not-room-clause-moves
returns-then-not-room-clause-moves c = inl (Fault.Memory, refl)

pub returns-in-Ok-clause-moves : goal.returns-in-Ok-clause-moves
returns-in-Ok-clause-moves c = inr (record { change = comes Coming.Next c.args.step; possible = c.requires; changed = c.in-Ok.ensures.world; notes = c.in-Ok.ensures.notes })

pub returns-in-Err-clause-moves : goal.returns-in-Err-clause-moves
returns-in-Err-clause-moves c = inl (Fault.Memory, refl)

pub returns-in-Ok-clause-stays : goal.returns-in-Ok-clause-stays
returns-in-Ok-clause-stays c r = let clash : events.stepped c.number-number.result ≡ events.refused r.0 = r.1 in cc

pub returns-in-Ok-clause-taken : goal.returns-in-Ok-clause-taken
returns-in-Ok-clause-taken c = inl (ap stepped c.number-number.ensures, c.in-Ok.ensures.world)

pub returns-in-Err-clause-taken : goal.returns-in-Err-clause-taken
returns-in-Err-clause-taken c = inr (refl, c.in-Err.ensures.stays.world)
