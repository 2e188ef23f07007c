use Rattle.ghc_pool.proofs.Words.{◌≡◌, [], length, sym, ap, subst, arith, HasGone}
use Rattle.std.proofs.lemmas.List.{nil_from_length}
use Rattle.ghc_pool.specs.inner.Turns.{names_in}
use Rattle.ghc_pool.proofs.Turns.{gone_on}
use Rattle.ghc_pool.proofs.rounds.working.work.Goals as goal

pub returns-then-not-rest : goal.returns-then-not-rest
returns-then-not-rest g c =
    let turn = c.take_turn_at_door-next in
    let few : length turn.new.hand.items ≡ 0 = grind (arith, c.is_empty.ensures, c.if-is_empty.true, c.make_attempts.ensures.count, turn.new.hand.ok.0) in
    let none : names_in turn.new.hand.items ≡ [] = ap (λ l. names_in l) (nil_from_length turn.new.hand.items few) in
    let fed = g.C.Craft.fed c.args.crew.now.craft.now in
    let asks = g.C.Craft.asks c.args.crew.now.craft.now in
    let tells = g.C.Craft.tells c.args.crew.now.craft.now in
    subst (λ l. HasGone fed asks tells [] l c.args.job.now turn.new.job) none
    (gone_on fed asks tells [] (names_in c.loop.hand.items) (names_in turn.new.hand.items) c.args.job.now c.loop.job turn.new.job c.loop.invariant.0 turn.ensures.gone)

pub returns-in-End : goal.returns-in-End
returns-in-End g c =
    let turn = c.take_turn_at_door-next in
    let few : length turn.new.hand.items ≡ 0 = grind (arith, c.is_empty.ensures, c.if-is_empty.true, c.make_attempts.ensures.count, turn.new.hand.ok.0) in
    let none : names_in turn.new.hand.items ≡ [] = ap (λ l. names_in l) (nil_from_length turn.new.hand.items few) in
    let fed = g.C.Craft.fed c.args.crew.now.craft.now in
    let asks = g.C.Craft.asks c.args.crew.now.craft.now in
    let tells = g.C.Craft.tells c.args.crew.now.craft.now in
    subst (λ l. HasGone fed asks tells [] l c.args.job.now turn.new.job) none
    (gone_on fed asks tells [] (names_in c.loop.hand.items) (names_in turn.new.hand.items) c.args.job.now c.loop.job turn.new.job c.loop.invariant.0 turn.ensures.gone)

pub loop-preserved : goal.loop-preserved
loop-preserved g c =
    let fed = g.C.Craft.fed c.args.crew.now.craft.now in
    let asks = g.C.Craft.asks c.args.crew.now.craft.now in
    let tells = g.C.Craft.tells c.args.crew.now.craft.now in
    let turn = c.take_turn_at_door-next in
    let made = c.make_attempts in (
      subst (λ l. HasGone fed asks tells [] l c.args.job.now turn.new.job) (sym made.ensures.names)
          (gone_on fed asks tells [] (names_in c.loop.hand.items) (names_in turn.new.hand.items) c.args.job.now c.loop.job turn.new.job c.loop.invariant.0 turn.ensures.gone),
      record {
        permit = λ t. omega (arith, turn.ensures.can.permit t, made.ensures.count, turn.new.hand.ok.0, made.new.hand.ok.0);
        room = omega (arith, turn.ensures.can.room, made.ensures.count, turn.new.hand.ok.0, made.new.hand.ok.0);
        apart = made.ensures.apart;
      },
    )
