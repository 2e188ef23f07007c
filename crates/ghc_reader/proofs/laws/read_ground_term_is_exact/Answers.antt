use Rattle.ghc_reader.proofs.ExactReading.{term_exact}
use Rattle.ghc_reader.proofs.laws.read_ground_term_is_exact.Goals as goal

pub returns : goal.returns
returns c = term_exact
