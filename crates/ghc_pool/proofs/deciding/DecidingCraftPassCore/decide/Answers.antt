use Rattle.ghc_pool.proofs.Telling.{asks_still, reason_after}
use Rattle.ghc_pool.proofs.deciding.DecidingCraftPassCore.decide.Goals as goal

pub returns-in-Some-clause-reason : goal.returns-in-Some-clause-reason
returns-in-Some-clause-reason g c = reason_after g.N.Naming.opened c.args.self.now.spies.now c.args.self.now.steps (c.args.name, c.take_attempt.result.answer) c.take_attempt.result.stop c.take_attempt.ensures.reason

pub returns-then-self-clause-reason : goal.returns-then-self-clause-reason
returns-then-self-clause-reason g c = reason_after g.N.Naming.opened c.args.self.now.spies.now c.args.self.now.steps (c.args.name, c.take_step.result.answer) c.take_step.result.stop c.take_step.ensures.reason

pub returns-clause-reason : goal.returns-clause-reason
returns-clause-reason g c = reason_after g.N.Naming.opened c.args.self.now.spies.now c.args.self.now.steps (c.args.name, c.note_unstepped.result.answer) c.note_unstepped.result.stop c.note_unstepped.ensures.reason

pub returns-in-Some-clause-still : goal.returns-in-Some-clause-still
returns-in-Some-clause-still g c = λ taken. asks_still g.N.Naming.opened c.args.self.now.spies.now c.args.self.now.steps taken (c.args.name, c.take_attempt.result.answer)

pub returns-then-self-clause-still : goal.returns-then-self-clause-still
returns-then-self-clause-still g c = λ taken. asks_still g.N.Naming.opened c.args.self.now.spies.now c.args.self.now.steps taken (c.args.name, c.take_step.result.answer)

pub returns-clause-still : goal.returns-clause-still
returns-clause-still g c = λ taken. asks_still g.N.Naming.opened c.args.self.now.spies.now c.args.self.now.steps taken (c.args.name, c.note_unstepped.result.answer)
