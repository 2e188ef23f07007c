use Rattle.ghc_console.proofs.CitedWords.{sym, ap, ◌∙◌}
use Rattle.std.specs.FinMap as finite
use Rattle.ghc_fire.specs.Goals.{Goals}
use Rattle.ghc_console.proofs.replies.part.told_named.Goals as goal

pub told_goal-requires-clause-there : goal.told_goal-requires-clause-there
told_goal-requires-clause-there c = ap (λ (goals : Goals). finite.get goals c.args.name) (sym c.goals.ensures) ∙ sym c.in-Some.ensures

pub told_taken-requires-clause-gone : goal.told_taken-requires-clause-gone
told_taken-requires-clause-gone c = ap (λ (goals : Goals). finite.get goals c.args.name) (sym c.goals.ensures) ∙ sym c.in-None.ensures
