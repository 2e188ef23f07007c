use Rattle.ghc_hooks.proofs.Words.{◌∙◌, ap, sym, in_names}
use Rattle.std.specs.FinSet as set
use Rattle.ghc_hooks.proofs.goal_set.GoalSet.contains.Goals as goal

pub returns : goal.returns
returns c = c.contains.ensures ∙ sym (in_names c.self.inside.marks.held c.args.goal) ∙ ap (λ t. set.contains t.held c.args.goal) c.self.view_is
