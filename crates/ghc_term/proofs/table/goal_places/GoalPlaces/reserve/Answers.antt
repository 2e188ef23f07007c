use Rattle.ghc_term.proofs.Words.{ap, ◌∙◌, numbers_of}
use Rattle.ghc_term.proofs.table.goal_places.GoalPlaces.reserve.Goals as goal

pub returns-clause-held : goal.returns-clause-held
returns-clause-held c = ap (numbers_of c.self.inside.near.items) c.reserve.ensures.entries ∙ ap (λ t. t.held) c.self.view_is
