use Rattle.ghc_reader.proofs.ExactReading.{ask_exact}
use Rattle.ghc_reader.proofs.laws.read_ask_is_exact.Goals as goal

pub returns : goal.returns
returns c = ask_exact
