use Rattle.ghc_pool.proofs.Standings.{none_untried}
use Rattle.ghc_pool.proofs.runs.run.settle.Goals as goal

pub returns-in-Ok-clause-settled : goal.returns-in-Ok-clause-settled
returns-in-Ok-clause-settled c =
    let core = c.settle.new.self in
    none_untried core.world core.notes core.untried c.stands.ensures.orderly.acyclic c.stands.ensures.exact c.in-Ok.ensures.settled
