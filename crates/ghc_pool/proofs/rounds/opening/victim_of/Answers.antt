use Rattle.ghc_pool.proofs.Words.{◌<◌, ap, arith, worker_view}
use Rattle.ghc_pool.proofs.Moves.{forks}
use Rattle.ghc_pool.proofs.rounds.opening.victim_of.Goals as goal

pub another-pass-requires : goal.another-pass-requires
another-pass-requires c =
    let parts : 1 < (worker_view c.args.owner.now).parts = omega (arith, ap (λ v. v.parts) c.requires.fresh.1, c.requires.part) in
    forks _ _ parts
