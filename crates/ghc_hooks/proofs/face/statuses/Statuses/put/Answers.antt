use Rattle.ghc_hooks.proofs.Words.{◌∙◌, ap, inserted, goal_total, goal_antisymmetric, same_is}
use Rattle.std.specs.FinMap as finite
use Rattle.ghc_fire.proofs.GoalNames.{same}
use Rattle.ghc_hooks.proofs.face.statuses.Statuses.put.Goals as goal

pub returns : goal.returns
returns c =
    inserted goal_total goal_antisymmetric same same_is c.self.inside.map.entries c.insert.new.self.entries c.args.goal c.args.status c.in_ok-insert.ensures.updates.0
    ∙ ap (λ m. finite.insert m c.args.goal c.args.status) c.self.view_is
