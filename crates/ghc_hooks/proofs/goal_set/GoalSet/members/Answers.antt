use Rattle.ghc_hooks.proofs.Words.{◌∙◌, ap, sym, count_of_names}
use Rattle.std.specs.FinSet as set
use Rattle.ghc_hooks.proofs.goal_set.GoalSet.members.Goals as goal

pub returns-clause-once : goal.returns-clause-once
returns-clause-once c = c.names.ensures.once ∙ sym (count_of_names c.self.inside.marks.held) ∙ ap (λ t. set.len t.held) c.self.view_is
