use Rattle.ghc_term.proofs.Words.{sym, ap, ◌∙◌, is_some}
use Rattle.std.specs.FinMap as finite
use Rattle.ghc_term.proofs.PlacedGoals.{has_is}
use Rattle.ghc_term.proofs.table.goal_map.GoalMap.contains.Goals as goal

pub returns : goal.returns
returns g c =
    let i = c.self.inside in
    c.is_some.ensures ∙ ap is_some c.get.ensures ∙ sym (has_is i.names.items i.values.items i.places.held c.self.invariant.0 c.args.name) ∙ ap (λ t. finite.contains_key t.held c.args.name) c.self.view_is
