use Rattle.ghc_console.proofs.CitedWords.{List, sym, subst, Record, IsNotKept}
use Rattle.ghc_depend.specs.Depend.{IsKeptAs}
use Rattle.ghc_console.specs.Looks.{RepliesToGoalOf, goal_of_no_step, tells_goal}
use Rattle.ghc_console.proofs.StepReplies.{if_ok, on_ok}
use Rattle.ghc_console.proofs.replies.goal_of_step.goal_of.Goals as goal

pub returns-in-Some : goal.returns-in-Some
returns-in-Some c = on_ok c.step_line.result c.step_line.ensures (λ told.
    let w = c.args.core.now.world in
    let n = c.args.number in
    let r = c.in-Some.step.now in
    subst (RepliesToGoalOf c.args.lines.now w n) (sym told) (tells_goal r (subst (λ (l : List Record). IsKeptAs l n r) c.records.ensures c.in-Some.ensures.found)))

pub returns-in-None : goal.returns-in-None
returns-in-None c = if_ok c.refused.result c.refused.ensures.text c.refused.ensures.memory (λ _ told kept.
    let w = c.args.core.now.world in
    subst (RepliesToGoalOf c.args.lines.now w c.args.number) (sym told) (goal_of_no_step (subst (λ (l : List Record). IsNotKept l c.args.number) c.records.ensures c.in-None.ensures.none)))
