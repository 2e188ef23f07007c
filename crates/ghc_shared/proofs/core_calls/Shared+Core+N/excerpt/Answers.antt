use Rattle.ghc_shared.proofs.core_calls.Shared+Core+N.excerpt.Goals as goal

pub returns : goal.returns
returns g c = (c.get-core.result.now.world, c.get-core.ensures.opened, c.stands.ensures.standing, c.excerpt.ensures)
