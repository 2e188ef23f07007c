use Rattle.ghc_hooks.proofs.Words.{◌∙◌, ap, value_is, goal_total, goal_antisymmetric, same_is}
use Rattle.std.specs.FinMap as finite
use Rattle.ghc_fire.proofs.GoalNames.{same}
use Rattle.ghc_hooks.proofs.face.statuses.Statuses.get.Goals as goal

pub returns : goal.returns
returns c = c.get.ensures.value ∙ value_is goal_total goal_antisymmetric same same_is c.args.goal c.self.inside.map.entries ∙ ap (λ m. finite.get m c.args.goal) c.self.view_is
