use Rattle.ghc_core.proofs.Words.{ap, status_of}
use Rattle.ghc_core.proofs.copies.verdict_again.Goals as goal

pub cause_again-requires : goal.cause_again-requires
cause_again-requires c = c.requires c.in-Failed.cause (ap status_of c.in-Failed.is)
