use Rattle.ghc_shared.proofs.AnsweredCalls.{as_submitted}
use Rattle.ghc_shared.proofs.core_calls.Shared+Core+N.submit_proposed.Goals as goal

pub returns-clause-decided : goal.returns-clause-decided
returns-clause-decided g c = let told = c.ask.ensures.decided in (told.0, as_submitted told.0 c.args.proposal c.ask.result c.args.me.now c.ask.new.me told.1)
