use Rattle.ghc_hooks.proofs.Words.{not_both}
use Rattle.ghc_hooks.proofs.FoundFace.{no_pool, pooled, not_pooled}
use Rattle.ghc_hooks.proofs.face.pools.pool_of.Goals.{then-is_of+in_ok-insert, else-is_of}
use Rattle.ghc_hooks.proofs.face.pools.pool_of.Goals as goal

pub loop-name-init : goal.loop-name-init
loop-name-init c = no_pool c.args.statuses.now c.args.kind c.new-pool.result.held c.new-pool.ensures

pub loop-name-preserved : goal.loop-name-preserved
loop-name-preserved c =
    let m = c.args.statuses.now in
    let gs = c.args.names.now in
    let i = c.loop-name.name-index in
    elim c.if-is_of.branch [
      | then-is_of+in_ok-insert w ↦
          rw w.pool-is (pooled gs i (record { step = 0; place = 0 }) c.loop-name-test.true m c.args.kind c.loop-name.pool.held w.insert.new.self.held
          c.loop-name.invariant (c.is_of.ensures.0 w.if-is_of.true) w.in_ok-insert.ensures.ok)
      | else-is_of w ↦
          rw w.pool-is (not_pooled gs i (record { step = 0; place = 0 }) c.loop-name-test.true m c.args.kind c.loop-name.pool.held
          c.loop-name.invariant (λ k. not_both c.is_of.result w.if-is_of.false (c.is_of.ensures.1 k)))
    ]
