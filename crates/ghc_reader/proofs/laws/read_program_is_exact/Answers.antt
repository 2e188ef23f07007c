use Rattle.ghc_reader.proofs.ExactReading.{program_exact}
use Rattle.ghc_reader.proofs.laws.read_program_is_exact.Goals as goal

pub returns : goal.returns
returns c = program_exact
