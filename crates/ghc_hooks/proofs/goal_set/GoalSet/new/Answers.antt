use Rattle.ghc_hooks.proofs.Words.{◌∙◌, ap, names_of, no_names}
use Rattle.ghc_hooks.proofs.goal_set.GoalSet.new.Goals as goal

pub returns : goal.returns
returns c = ap (λ m. names_of m) c.new.ensures ∙ no_names Unit
