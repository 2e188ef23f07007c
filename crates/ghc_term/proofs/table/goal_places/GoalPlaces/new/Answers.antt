use Rattle.ghc_term.proofs.Words.{ap, ◌∙◌, goal_cmp, numbers_in}
use Rattle.std.specs.FinMap as finite
use Rattle.ghc_term.proofs.table.goal_places.GoalPlaces.new.Goals as goal

pub invariant_of-result : goal.invariant_of-result
invariant_of-result c s g near = ap (λ es. finite.get (numbers_in es) g) c.with_hasher.ensures.empty ∙ finite.get-empty goal_cmp g
