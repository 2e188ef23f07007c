use Rattle.ghc_reader.proofs.ExactReading.{query_exact}
use Rattle.ghc_reader.proofs.laws.read_query_is_exact.Goals as goal

pub returns : goal.returns
returns c = query_exact
