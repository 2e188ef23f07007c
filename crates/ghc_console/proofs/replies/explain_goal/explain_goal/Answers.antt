use Rattle.ghc_console.proofs.CitedWords.{◌≡◌, ◌++◌, ◌∙◌, ap, sym, subst, string_bytes, World}
use Rattle.ghc_console.specs.Explaining.{RepliesToExplainGoal, explains_goal}
use Rattle.ghc_console.proofs.FoundReplies.{explained_goal_refused}
use Rattle.ghc_console.proofs.StepReplies.{if_ok, on_ok}
use Rattle.ghc_console.proofs.replies.explain_goal.explain_goal.Goals as goal

pub returns-in-Ok-clause-text : goal.returns-in-Ok-clause-text
returns-in-Ok-clause-text c = on_ok c.push_origin.result c.push_origin.ensures (λ origin.
    let w = c.settle.new.core.world in
    let g = c.args.name in
    let line = c.in-Ok.ensures.told in
    let written : string_bytes c.push_origin.new.reply ≡ line.0 ++ origin.0 = origin.2 ∙ ap (λ t. t ++ origin.0) (line.2 ∙ ap (λ t. t ++ line.0) c.requires) in
    subst (λ (u : World). RepliesToExplainGoal u g (string_bytes c.push_origin.new.reply)) c.in_ok-settle.ensures.world
    (subst (RepliesToExplainGoal w g) (sym written) (explains_goal c.in-Ok.goal.now line.0 origin.0 c.in-Ok.ensures.there line.1 c.in-Ok.ensures.short origin.1)))

pub returns-in-Err-clause-text : goal.returns-in-Err-clause-text
returns-in-Err-clause-text c = if_ok c.refused.result c.refused.ensures.text c.refused.ensures.memory (λ _ told kept.
    subst (λ (u : World). RepliesToExplainGoal u c.args.name (string_bytes c.refused.new.reply)) c.in_ok-settle.ensures.world
    (explained_goal_refused c.settle.new.core.world c.args.name c.in-Err.fault (string_bytes c.refused.new.reply) c.in-Err.ensures.refused told kept))
