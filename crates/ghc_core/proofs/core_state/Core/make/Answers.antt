use Rattle.ghc_core.proofs.Words.{subst, AreLeft, IsBoundBy}
use Rattle.ghc_core.proofs.core_state.Core.make.Goals as goal

pub returns-clause-notes : goal.returns-clause-notes
returns-clause-notes c = subst (λ notes. AreLeft c.apply.new.self.world.state.goals (IsBoundBy c.args.change) notes c.apply.new.self.notes) c.reserve.ensures.stays.notes c.apply.ensures.notes
