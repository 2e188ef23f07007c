use Rattle.ghc_trace.proofs.SpyOrder.{come_back}
use Rattle.ghc_trace.proofs.spy_laws.listed_spies_come_back.Goals as goal

pub returns : goal.returns
returns c = come_back
