use Rattle.ghc_pool.proofs.Words.{HasGone}
use Rattle.ghc_pool.specs.inner.Turns.{CanDecide, names_in}
use Rattle.ghc_pool.proofs.rounds.working.decide_hand.Given as goal

abbrev pub invariant-loop-held : goal.invariant-loop-held
invariant-loop-held g l =
    HasGone (g.C.Craft.fed l.crew.craft.now) (g.C.Craft.asks l.crew.craft.now) (g.C.Craft.tells l.crew.craft.now) (names_in l.initial.hand.items) (names_in l.hand.items)
    l.fn.job (record { number = l.number; worker = l.worker; pass = l.pass; share = l.fn.job.share; spare = l.spare })
    × CanDecide (g.C.Craft.excerpts l.crew.craft.now) (g.C.Craft.attempts l.crew.craft.now) (g.C.Craft.takes l.crew.craft.now) l.hand.items
    (record { number = l.number; worker = l.worker; pass = l.pass; share = l.fn.job.share; spare = l.spare })

abbrev pub decreases-loop-held : goal.decreases-loop-held
decreases-loop-held g l = goal.left-loop-held g l
