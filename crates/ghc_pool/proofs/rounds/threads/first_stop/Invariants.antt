use Rattle.ghc_pool.proofs.Words.{take, works, AreJudged}
use Rattle.ghc_pool.proofs.rounds.threads.first_stop.Given as goal

abbrev pub invariant-loop-worker : goal.invariant-loop-worker
invariant-loop-worker g l = AreJudged (g.C.Craft.fed l.craft) (g.C.Craft.asks l.craft) ⊥ l.found (works (take l.worker-index l.workers.items))
