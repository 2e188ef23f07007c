use Rattle.ghc_core.proofs.Words.{ap}
use Rattle.ghc_core.specs.Core.{Core}
use Rattle.ghc_core.proofs.core_state.Core.asks_for_goals.Goals as goal

pub returns : goal.returns
returns c = rw (ap (λ (x : Core). x.world.kept) c.self.view_is) at c.ask_for_goals.ensures
