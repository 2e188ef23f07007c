use Rattle.ghc_core.proofs.Words.{ap, Hands, with_other_hands}
use Rattle.ghc_core.proofs.Taking.{reached_reachable}
use Rattle.ghc_core.proofs.world.World.new.Goals as goal

pub returns-in-Ok-clause-reachable : goal.returns-in-Ok-clause-reachable
returns-in-Ok-clause-reachable c = with_other_hands (reached_reachable c.stands.ensures.standing) (ap (λ (h : Hands). h.held) c.in-Ok.ensures)
