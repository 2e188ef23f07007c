use Rattle.ghc_fire.proofs.Words.{map, ap, ◌∙◌, IfOk-weaker, replace_in_goal, renamed}
use Rattle.ghc_fire.proofs.Renamed.{renamed_body}
use Rattle.ghc_fire.proofs.instances.instance.Goals as goal

pub returns : goal.returns
returns c =
    let s = renamed c.args.head_variables c.args.theta.now c.args.number in
    let body = renamed_body c.args.head_variables c.args.clause.now c.args.theta.now c.args.number c.requires in
    let goals = ap (map (replace_in_goal s)) c.body.ensures ∙ body in
    IfOk-weaker c.replace_made.result _ _ (λ made e. e ∙ (λ i. record { goals = goals i; fresh = c.fresh.ensures i })) c.replace_made.ensures
