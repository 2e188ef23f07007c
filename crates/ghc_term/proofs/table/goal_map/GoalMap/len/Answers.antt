use Rattle.std.proofs.Common.{sym, ap, ◌∙◌}
use Rattle.std.specs.FinMap as finite
use Rattle.ghc_term.proofs.PlacedGoals.{count_is}
use Rattle.ghc_term.proofs.table.goal_map.GoalMap.len.Goals as goal

pub returns-clause-count : goal.returns-clause-count
returns-clause-count g c =
    let i = c.self.inside in
    c.len.ensures ∙ i.names.ok.0 ∙ sym (count_is i.names.items i.values.items i.places.held c.self.invariant.0) ∙ ap (λ t. finite.len t.held) c.self.view_is
