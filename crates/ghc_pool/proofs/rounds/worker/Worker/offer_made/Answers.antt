use Rattle.std.proofs.Common.{[], ◌∙◌}
use Rattle.ghc_pool.proofs.Stealing.{keeps_after}
use Rattle.ghc_pool.proofs.Wells.{offered_after, room_after}
use Rattle.ghc_pool.proofs.rounds.worker.Worker.offer_made.Goals as goal

pub returns-then-not-offer-clause-room : goal.returns-then-not-offer-clause-room
returns-then-not-offer-clause-room c = room_after c.args.self.now c.loop-index.self c.offer.new.self c.loop-index.invariant.1 c.offer.ensures.room

pub loop-index-preserved : goal.loop-index-preserved
loop-index-preserved c =
    let was = c.loop-index.invariant in
    let offer = c.offer.ensures in (
      keeps_after [] [] [] _ _ _ was.0 offer.keeps,
      room_after c.args.self.now c.loop-index.self c.offer.new.self was.1 offer.room,
      offer.taken ∙ was.2,
      offered_after c.args.self.now c.loop-index.self c.offer.new.self was.3 offer.stop,
      offer.got ∙ was.4,
    )
