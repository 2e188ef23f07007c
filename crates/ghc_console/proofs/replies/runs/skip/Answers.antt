use Rattle.ghc_console.proofs.CitedWords.{ap, not, refl, ◌∙◌, skip_asks}
use Rattle.std.specs.FinMap as finite
use Rattle.ghc_console.proofs.RunCommands.{goal_there, skip_refused}
use Rattle.ghc_console.proofs.replies.runs.skip.Goals as goal

pub returns-then-is_none : goal.returns-then-is_none
returns-then-is_none c =
    let d = c.args.debugger.now in
    let refused = skip_refused d.workers d.spies d.core.world c.args.goal c.get.result _ (c.is_none.ensures ∙ ap not c.if-is_none.true)
    (c.get.ensures ∙ ap (λ goals. finite.get goals c.args.goal) c.goals.ensures) c.in_ok-refused.ensures.text in
    (record { told = refused; spies = refl; workers = refl; lines = refl }, refl)

pub returns : goal.returns
returns c =
    let there = goal_there c.args.debugger.now.core.world c.args.goal c.get.result (c.is_none.ensures ∙ ap not c.if-is_none.false) (c.get.ensures ∙ ap (λ goals. finite.get goals c.args.goal) c.goals.ensures) in
    (refl, skip_asks c.args.goal there.0 there.1)
