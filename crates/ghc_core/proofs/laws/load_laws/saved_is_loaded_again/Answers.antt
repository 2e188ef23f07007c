use Rattle.ghc_core.proofs.LoadedAgain.{loaded_again}
use Rattle.ghc_core.proofs.laws.load_laws.saved_is_loaded_again.Goals as goal

pub returns : goal.returns
returns c = loaded_again
