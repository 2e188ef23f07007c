use Rattle.ghc_term.proofs.Words.{sym, ap, length, ◌∙◌, goal_cmp, names_of}
use Rattle.std.specs.FinMap as finite
use Rattle.std.specs.FinSet as set
use Rattle.ghc_term.proofs.PlacedGoals.{list_is, count_is}
use Rattle.ghc_term.proofs.table.goal_map.GoalMap.names.Goals as goal

pub returns-clause-all : goal.returns-clause-all
returns-clause-all g c =
    let i = c.self.inside in
    ap (λ l. set.from_list {R = goal_cmp} l) c.deref.ensures.value ∙ list_is i.names.items i.values.items c.self.invariant.0.0 ∙ ap (λ t. names_of t.held) c.self.view_is

pub returns-clause-once : goal.returns-clause-once
returns-clause-once g c =
    let i = c.self.inside in
    ap length c.deref.ensures.value ∙ sym (count_is i.names.items i.values.items i.places.held c.self.invariant.0) ∙ ap (λ t. finite.len t.held) c.self.view_is
