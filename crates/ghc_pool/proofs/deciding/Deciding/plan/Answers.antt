use Rattle.ghc_pool.proofs.Telling.{opposite, woken_of}
use Rattle.ghc_pool.proofs.deciding.Deciding.plan.Goals as goal

pub returns-then-not-has : goal.returns-then-not-has
returns-then-not-has g c = λ i. opposite c.has.result (c.has.ensures.1 i) c.if-not-has.true

pub plan_of-requires-clause-inside : goal.plan_of-requires-clause-inside
plan_of-requires-clause-inside g c = c.has.ensures.0 c.if-not-has.false

pub plan_of-requires-clause-proposed : goal.plan_of-requires-clause-proposed
plan_of-requires-clause-proposed g c = (c.in-Ok.ensures.answer.0, c.in-Ok.ensures.answer.1)

pub plan_of-requires-clause-woken : goal.plan_of-requires-clause-woken
plan_of-requires-clause-woken g c = woken_of g.N.Naming.opened c.args.goal c.in-Ok.proposal c.new-woken.result.items c.propose_and_list.new.woken.items c.new-woken.ensures.items c.in-Ok.ensures.answer

pub plan_without-requires : goal.plan_without-requires
plan_without-requires g c = (c.in-Err.ensures.answer.0, c.in-Err.ensures.answer.1)
