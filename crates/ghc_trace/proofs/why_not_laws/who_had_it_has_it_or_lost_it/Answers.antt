use Rattle.ghc_trace.proofs.Passing.{passed_or_lost}
use Rattle.ghc_trace.proofs.why_not_laws.who_had_it_has_it_or_lost_it.Goals as goal

pub returns : goal.returns
returns c = passed_or_lost
