use Rattle.ghc_pool.proofs.Moves.{merges}
use Rattle.ghc_pool.proofs.rounds.worker.Worker.absorb.Goals as goal

pub absorb-requires-clause-rule : goal.absorb-requires-clause-rule
absorb-requires-clause-rule c = merges _ _ _ _ c.requires.part
