use Rattle.ghc_core.proofs.Words.{refl}
use Rattle.ghc_core.proofs.AskedGoals.{ask_told}
use Rattle.ghc_core.proofs.core_state.Core.foresee.Goals as goal

pub returns-in-Input-clause-anyway : goal.returns-in-Input-clause-anyway
returns-in-Input-clause-anyway c f foreseen fails = c.record_of.ensures.refused f (c.prepare_input.ensures.anyway f (rw c.in-Input.is at fails))

pub returns-in-Input-clause-other : goal.returns-in-Input-clause-other
returns-in-Input-clause-other c foreseen = c.record_of.ensures.refused _ (c.prepare_input.ensures.anyway _ (rw c.in-Input.is at foreseen))

pub returns-in-Close-clause-anyway : goal.returns-in-Close-clause-anyway
returns-in-Close-clause-anyway c f foreseen fails = c.record_of-in-Close.ensures.refused f (c.prepare_close.ensures.anyway f (rw c.in-Close.is at fails))

pub returns-in-Close-clause-other : goal.returns-in-Close-clause-other
returns-in-Close-clause-other c foreseen = c.record_of-in-Close.ensures.refused _ (c.prepare_close.ensures.anyway _ (rw c.in-Close.is at foreseen))

pub returns-in-Ask-clause-anyway : goal.returns-in-Ask-clause-anyway
returns-in-Ask-clause-anyway c f foreseen fails = c.record_of-in-Ask.ensures.refused f (c.prepare_ask.ensures.anyway f (rw c.in-Ask.is at fails))

pub returns-in-Ask-clause-other : goal.returns-in-Ask-clause-other
returns-in-Ask-clause-other c fails = absurd ((ask_told c.args.self.now.world c.in-Ask.ask (rw c.in-Ask.is at fails)).2 refl)
