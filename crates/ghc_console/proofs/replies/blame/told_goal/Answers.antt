use Rattle.ghc_console.proofs.CitedWords.{◌≡◌, None, sym, subst, ap, ◌∙◌}
use Rattle.std.specs.FinMap as finite
use Rattle.ghc_fire.specs.Goals.{Goals}
use Rattle.ghc_console.specs.BlameReplies.{RepliesToBlameGoal, blames_goal, blames_no_goal}
use Rattle.ghc_console.proofs.StepReplies.{if_ok, on_ok}
use Rattle.ghc_console.proofs.replies.blame.told_goal.Goals as goal

pub told_of-requires-clause-known : goal.told_of-requires-clause-known
told_of-requires-clause-known c = (c.in-Some._goal.now, ap (λ (goals : Goals). finite.get goals c.args.name) (sym c.goals.ensures) ∙ sym c.in-Some.ensures)

pub returns-in-Some : goal.returns-in-Some
returns-in-Some c = on_ok c.told_of.result c.told_of.ensures (λ told.
    blames_goal c.in-Some._goal.now (ap (λ (goals : Goals). finite.get goals c.args.name) (sym c.goals.ensures) ∙ sym c.in-Some.ensures) told)

pub returns-in-None : goal.returns-in-None
returns-in-None c = if_ok c.refused.result c.refused.ensures.text c.refused.ensures.memory (λ _ told kept.
    let w = c.args.core.now.world in
    let g = c.args.name in
    let none : finite.get w.state.goals g ≡ None = ap (λ (goals : Goals). finite.get goals g) (sym c.goals.ensures) ∙ sym c.in-None.ensures in
    subst (RepliesToBlameGoal w g c.args.answers.now) (sym told) (blames_no_goal none))
