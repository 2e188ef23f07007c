use Rattle.ghc_hooks.proofs.Words.{◌∙◌, ap, names_of}
use Rattle.ghc_hooks.proofs.goal_set.GoalSet.reserve.Goals as goal

pub returns-clause-held : goal.returns-clause-held
returns-clause-held c = ap (λ m. names_of m) c.reserve.ensures.held ∙ ap (λ t. t.held) c.self.view_is
