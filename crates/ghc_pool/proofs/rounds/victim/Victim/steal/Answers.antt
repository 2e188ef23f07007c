use Rattle.ghc_pool.proofs.Words.{◌<◌, arith, view}
use Rattle.ghc_pool.proofs.Moves.{takes}
use Rattle.ghc_pool.proofs.rounds.victim.Victim.steal.Goals as goal

pub steal_as-requires-clause-takes : goal.steal_as-requires-clause-takes
steal_as-requires-clause-takes c =
    let some_part : 0 < (view c.args.self.now.pass).parts = omega (arith, c.requires.2) in
    takes _ _ some_part
