use Rattle.ghc_pool.proofs.Words.{length, ap, arith, worker_view}
use Rattle.ghc_pool.proofs.rounds.worker.Worker.meet_last.Goals as goal

pub returns-clause-room : goal.returns-clause-room
returns-clause-room g c =
    let room = c.handle.ensures.room (length (worker_view c.args.self.now.owner).got) c.requires.room in
    omega (arith, room, ap (λ l. length l) c.handle.ensures.got)
