use Rattle.ghc_trace.proofs.Words.{value_at}
use Rattle.ghc_match.proofs.Outcomes.{accepts_waits}
use Rattle.ghc_trace.proofs.others.read_by.Goals as goal

pub returns-in-Waits : goal.returns-in-Waits
returns-in-Waits c accepts = let w = rw c.in-Waits.is at c.in_ok-says.ensures in accepts_waits c.args.clause.now c.args.arguments.now (value_at c.args.store.now.held) accepts w.0 w.1
