use Rattle.ghc_pool.specs.inner.Turns.{names_in}
use Rattle.ghc_pool.proofs.Turns.{gone_on}
use Rattle.ghc_pool.proofs.rounds.working.take_turn.Goals as goal

pub returns-clause-gone : goal.returns-clause-gone
returns-clause-gone g c = gone_on _ _ _ (names_in c.args.hand.now.items) (names_in c.decide_hand.new.hand.items) (names_in c.take_names.new.hand.items) c.args.job.now c.decide_hand.new.job c.take_names.new.job c.decide_hand.ensures.gone c.take_names.ensures.gone
