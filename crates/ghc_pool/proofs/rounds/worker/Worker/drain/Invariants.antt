use Rattle.ghc_pool.proofs.Words.{◌≡◌, ◌+◌, [], length, worker_view, work_of, Keeps, submits, IsSpent, WentOn}
use Rattle.ghc_pool.specs.inner.Workers.{HasRoom}
use Rattle.ghc_pool.proofs.rounds.worker.Worker.drain.Given as goal

abbrev pub invariant-loop : goal.invariant-loop
invariant-loop g l =
    Keeps [] [] l.initial.self l.self × HasRoom (length (worker_view l.self.owner).got + 1) l.self × (l.permits.share.parts ≡ l.initial.permits.share.parts)
    × WentOn (g.C.Craft.fed l.craft) (g.C.Craft.asks l.craft) (IsSpent (g.C.Craft.takes l.craft) l.permits.spare l.permits.budget.left) l.initial.stop l.stop (work_of l.initial.self) (work_of l.self) l.initial.permits l.permits
    × ((start : g.row.P.Denot) → g.C.Craft.tells l.craft start l.initial.self.taken.items l.initial.pass → g.C.Craft.tells l.craft start l.self.taken.items l.pass)
    × (l.permits.share.amount + (l.initial.permits.spare + submits l.initial.self.taken.items) ≡ l.initial.permits.share.amount + (l.permits.spare + submits l.self.taken.items))
