use Rattle.ghc_pool.proofs.Words.{◌≡◌, [], worker_view, Keeps, KeepsRoom, IsOfferedOrStopped}
use Rattle.ghc_pool.proofs.rounds.worker.Worker.offer_woken.Given as goal

abbrev pub invariant-loop-name : goal.invariant-loop-name
invariant-loop-name l = Keeps [] [] l.initial.self l.self × KeepsRoom l.initial.self l.self × (l.self.taken ≡ l.initial.self.taken) × IsOfferedOrStopped l.initial.self l.self × ((worker_view l.self.owner).got ≡ (worker_view l.initial.self.owner).got)
