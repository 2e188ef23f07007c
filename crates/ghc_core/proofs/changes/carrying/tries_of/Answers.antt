use Rattle.ghc_core.proofs.Words.{◌≡◌, ap, ◌∙◌, arith, GoalName, goal_cmp, IsToTry, AreMarked}
use Rattle.std.specs.FinMap as finite
use Rattle.std.specs.FinSet as set
use Rattle.ghc_core.proofs.changes.carrying.tries_of.Goals as goal

pub mark_made-requires-clause-new : goal.mark_made-requires-clause-new
mark_made-requires-clause-new c g given = ap (λ m. finite.get m g) (c.in_ok-reserve.ensures.notes ∙ c.new-tries.ensures.notes) ∙ finite.get-empty goal_cmp g

pub returns-clause-notes : goal.returns-clause-notes
returns-clause-notes c = c.mark_made.ensures.notes ∙ c.in_ok-reserve.ensures.notes ∙ c.new-tries.ensures.notes

pub returns-clause-untried : goal.returns-clause-untried
returns-clause-untried c g =
    let unmarked = ap (λ s. set.contains s g) (c.in_ok-reserve.ensures.untried ∙ c.new-tries.ensures.untried) ∙ set.contains-empty goal_cmp g in
    grind (arith, c.mark_made.ensures.untried g, unmarked)
