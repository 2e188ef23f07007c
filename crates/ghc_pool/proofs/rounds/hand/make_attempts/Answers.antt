use Rattle.ghc_pool.proofs.Words.{◌<◌, length, sym, ap, ◌∙◌, subst, arith}
use Rattle.ghc_pool.specs.declared.rounds.hand.InHand.{InHand}
use Rattle.ghc_pool.specs.inner.Turns.{IsApart}
use Rattle.ghc_pool.proofs.Turns.{apart_at, apart_set, names_at}
use Rattle.ghc_pool.proofs.rounds.hand.make_attempts.Goals as goal

pub make-requires : goal.make-requires
make-requires g c =
    let excerpts = g.C.Craft.excerpts c.args.craft.now in
    let attempts = g.C.Craft.attempts c.args.craft.now in
    let hand = c.loop-index.hand in
    let low : c.loop-index.index < length hand.items = omega (arith, hand.ok.0, c.loop-index.invariant.2, c.len-index-end.ensures, c.loop-index-test.true) in
    subst (λ (x : InHand). IsApart excerpts attempts x.name x.apart) (sym c.index_mut.ensures.value) (apart_at excerpts attempts hand.items c.loop-index.index c.index_mut.result.now low c.loop-index.invariant.0)

pub loop-index-preserved : goal.loop-index-preserved
loop-index-preserved g c =
    let excerpts = g.C.Craft.excerpts c.args.craft.now in
    let attempts = g.C.Craft.attempts c.args.craft.now in
    let hand = c.loop-index.hand in
    let was = c.loop-index.invariant in (
      apart_set excerpts attempts hand.items c.loop-index.index c.make.new.self was.0 c.make.ensures.apart,
      names_at hand.items c.loop-index.index c.index_mut.result.now c.make.new.self (c.make.ensures.name ∙ ap (λ (x : InHand). x.name) c.index_mut.ensures.value) ∙ was.1,
      was.2,
    )
