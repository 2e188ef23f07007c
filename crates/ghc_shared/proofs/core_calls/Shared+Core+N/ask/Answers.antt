use Rattle.ghc_shared.proofs.AnsweredCalls.{answered, told_anyway}
use Rattle.ghc_shared.proofs.core_calls.Shared+Core+N.ask.Goals as goal

pub returns-clause-answered : goal.returns-clause-answered
returns-clause-answered g c = answered c.legal_is_reachable.ensures c.args.call c.call.ensures.decided.0 c.call.result c.args.me.now c.call.new.me c.call.ensures.decided.1

pub returns-clause-anyway : goal.returns-clause-anyway
returns-clause-anyway g c = told_anyway c.leaves_is_one.ensures c.args.call c.call.ensures.decided.0 c.call.result c.args.me.now c.call.new.me c.call.ensures.decided.1
