use Rattle.std.proofs.Common.{rules}
use Rattle.ghc_shared.proofs.core_calls.Shared+Core+N.has_few_clauses.Goals as goal

pub returns : goal.returns
returns g c = let o = c.get.result.now.world.opening in (o, c.get.ensures.opened, search rules)
