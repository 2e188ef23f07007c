use Rattle.ghc_console.proofs.CitedWords.{◌∙◌, ap, inr, sym, Err}
use Rattle.std.specs.FinMap as finite
use Rattle.ghc_fire.specs.Goals.{Goals}
use Rattle.ghc_console.specs.inner.Found.{is_not_there}
use Rattle.ghc_console.proofs.FoundReplies.{long_goal}
use Rattle.ghc_console.proofs.replies.found.push_goal_named.Goals as goal

pub push_goal-requires-clause-there : goal.push_goal-requires-clause-there
push_goal-requires-clause-there c = ap (λ (goals : Goals). finite.get goals c.args.name) (sym c.goals.ensures) ∙ sym c.in-Some.ensures

pub returns-in_default-clause-refused : goal.returns-in_default-clause-refused
returns-in_default-clause-refused c = inr (is_not_there (ap (λ (goals : Goals). finite.get goals c.args.name) (sym c.goals.ensures) ∙ sym c.in_default.ensures))

pub returns-in-Err-clause-refused : goal.returns-in-Err-clause-refused
returns-in-Err-clause-refused c =
    let there = ap (λ (goals : Goals). finite.get goals c.args.name) (sym c.goals.ensures) ∙ sym c.in-Some.ensures in
    long_goal c.args.core.now.world c.args.name c.in-Some.goal.now c.in-Err.fault there c.in-Err.ensures.refused (λ q. c.push_goal.ensures.too_long (c.in-Err.is ∙ ap Err q))

pub returns-in-Ok-clause-there : goal.returns-in-Ok-clause-there
returns-in-Ok-clause-there c = ap (λ (goals : Goals). finite.get goals c.args.name) (sym c.goals.ensures) ∙ sym c.in-Some.ensures

pub returns-in-Ok-clause-told : goal.returns-in-Ok-clause-told
returns-in-Ok-clause-told c = c.in-Ok.ensures.text
