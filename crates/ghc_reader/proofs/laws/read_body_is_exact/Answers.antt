use Rattle.ghc_reader.proofs.ExactReading.{body_exact}
use Rattle.ghc_reader.proofs.laws.read_body_is_exact.Goals as goal

pub returns : goal.returns
returns c = body_exact
