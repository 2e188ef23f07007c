use Rattle.ghc_trace.proofs.MayGo.{bound_from_either}
use Rattle.ghc_trace.proofs.why_not_laws.what_may_be_bound_is_reached.Goals as goal

pub returns : goal.returns
returns c = bound_from_either
