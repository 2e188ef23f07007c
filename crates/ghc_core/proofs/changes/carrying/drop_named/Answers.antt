use Rattle.std.proofs.Common.{◌≡◌, Some, sym, ap, ◌∙◌}
use Rattle.ghc_core.proofs.Carried.{dropped_as, one_dropped}
use Rattle.ghc_core.proofs.changes.carrying.drop_named.Goals as goal

pub returns-in-Some-clause-dropped : goal.returns-in-Some-clause-dropped
returns-in-Some-clause-dropped c =
    dropped_as (λ h. h ≡ c.in-Some.goal) (λ g. c.args.name ≡ Some g) c.args.tries.now c.drop_goal.new.self (λ g e. c.in-Some.is ∙ ap Some (sym e)) (λ g e. cc)
    (one_dropped c.args.tries.now c.drop_goal.new.self c.in-Some.goal c.drop_goal.ensures.notes c.drop_goal.ensures.untried)
