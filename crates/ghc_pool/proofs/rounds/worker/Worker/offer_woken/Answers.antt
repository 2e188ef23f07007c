use Rattle.std.proofs.Common.{[], ◌∙◌}
use Rattle.ghc_pool.proofs.Stealing.{keeps_after}
use Rattle.ghc_pool.proofs.Wells.{offered_after, room_after}
use Rattle.ghc_pool.proofs.rounds.worker.Worker.offer_woken.Goals as goal

pub returns-then-not-offer-clause-room : goal.returns-then-not-offer-clause-room
returns-then-not-offer-clause-room c = room_after c.args.self.now c.loop-name.self c.offer.new.self c.loop-name.invariant.1 c.offer.ensures.room

pub loop-name-preserved : goal.loop-name-preserved
loop-name-preserved c =
    let was = c.loop-name.invariant in
    let offer = c.offer.ensures in (
      keeps_after [] [] [] _ _ _ was.0 offer.keeps,
      room_after c.args.self.now c.loop-name.self c.offer.new.self was.1 offer.room,
      offer.taken ∙ was.2,
      offered_after c.args.self.now c.loop-name.self c.offer.new.self was.3 offer.stop,
      offer.got ∙ was.4,
    )
