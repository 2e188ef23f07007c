use Rattle.ghc_pool.proofs.Words.{◌≡◌, [], vec_len, Keeps, DidNothing}
use Rattle.ghc_pool.proofs.rounds.worker.Worker.steal.Given as goal

abbrev pub invariant-loop-index : goal.invariant-loop-index
invariant-loop-index l = Keeps [] [] l.initial.self l.self × DidNothing l.initial.self l.self × (vec_len l.self.victims ≡ vec_len l.initial.self.victims)
