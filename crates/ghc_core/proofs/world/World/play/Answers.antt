use Rattle.ghc_core.proofs.Words.{map, Some, sym, ap, ◌∙◌, subst, arith, take_all, slice_get-get_or, Plays, event_of, reply_of, MeetsEach}
use Rattle.ghc_core.proofs.Playable.{met_next, met_played}
use Rattle.ghc_core.proofs.world.World.play.Goals as goal

pub loop-event-preserved : goal.loop-event-preserved
loop-event-preserved c =
    let before = c.loop-event.invariant in
    let i = c.loop-event.event-index in
    let room = c.put_reply.ensures.capacity in
    let one_more = c.put_reply.ensures.len in
    let at = slice_get-get_or c.args.events.now i c.event-item.result c.loop-event-test.true ∙ ap Some (sym c.event-item.is) in (
      omega (arith, before.0, room),
      omega (arith, before.1, one_more),
      met_next c.args.self.now c.loop-event.self c.answer-reply.new.self c.args.events.now i c.event-item.result c.loop-event.replies.items c.put_reply.new.replies.items c.answer-reply.result at c.put_reply.ensures.items before.2
          c.answer-reply.ensures.met,
    )

pub returns-clause-met : goal.returns-clause-met
returns-clause-met c =
    subst (λ es. MeetsEach c.args.self.now (map event_of es) (map reply_of c.loop-event.replies.items) c.loop-event.self) (take_all c.loop-event.event-index c.args.events.now c.loop-event-test.false) c.loop-event.invariant.2

pub returns-clause-played : goal.returns-clause-played
returns-clause-played c = Plays.played (met_played c.args.self.now c.loop-event.self (map event_of c.args.events.now) (map reply_of c.loop-event.replies.items) (returns-clause-met c))
