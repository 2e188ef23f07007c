use Rattle.ghc_trace.proofs.NeverBound.{never_bound}
use Rattle.ghc_trace.proofs.why_not_laws.what_stays_unbound_is_never_bound.Goals as goal

pub returns : goal.returns
returns c = never_bound
