use Rattle.ghc_console.proofs.CitedWords.{◌≡◌, ◌++◌, ◌∙◌, ap, sym, subst, string_bytes, World}
use Rattle.ghc_console.specs.WhyNot.{RepliesToWhyNotGoal, asks_why_it_waits}
use Rattle.ghc_console.proofs.FoundReplies.{asked_goal_refused}
use Rattle.ghc_console.proofs.StepReplies.{if_ok, on_ok}
use Rattle.ghc_console.proofs.replies.why_not.why_not_goal.Goals as goal

pub returns-in-Ok-clause-text : goal.returns-in-Ok-clause-text
returns-in-Ok-clause-text c = on_ok c.push_why_not_goal.result c.push_why_not_goal.ensures (λ why.
    let w = c.settle.new.core.world in
    let g = c.args.name in
    let line = c.in-Ok.ensures.told in
    let written : string_bytes c.push_why_not_goal.new.out ≡ line.0 ++ why.0 = why.2 ∙ ap (λ t. t ++ why.0) (line.2 ∙ ap (λ t. t ++ line.0) c.requires) in
    subst (λ (u : World). RepliesToWhyNotGoal u g (string_bytes c.push_why_not_goal.new.out)) c.in_ok-settle.ensures.world
    (subst (RepliesToWhyNotGoal w g) (sym written) (asks_why_it_waits c.in-Ok._goal.now line.0 why.0 c.in-Ok.ensures.there line.1 c.in-Ok.ensures.short why.1)))

pub returns-in-Err-clause-text : goal.returns-in-Err-clause-text
returns-in-Err-clause-text c = if_ok c.refused.result c.refused.ensures.text c.refused.ensures.memory (λ _ told kept.
    subst (λ (u : World). RepliesToWhyNotGoal u c.args.name (string_bytes c.refused.new.reply)) c.in_ok-settle.ensures.world
    (asked_goal_refused c.settle.new.core.world c.args.name c.in-Err.fault (string_bytes c.refused.new.reply) c.in-Err.ensures.refused told kept))
