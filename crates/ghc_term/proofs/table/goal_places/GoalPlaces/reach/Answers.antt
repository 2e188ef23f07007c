use Rattle.std.proofs.Common.{ap, ◌∙◌}
use Rattle.ghc_term.proofs.Slots.{same_values}
use Rattle.ghc_term.proofs.GoalPlaces.{listing}
use Rattle.ghc_term.proofs.table.goal_places.GoalPlaces.reach.Goals as goal

pub returns-clause-held : goal.returns-clause-held
returns-clause-held c =
    let i = c.self.inside in
    same_values listing i.near.items c.grow.new.near.items i.others.entries c.grow.ensures ∙ ap (λ t. t.held) c.self.view_is
