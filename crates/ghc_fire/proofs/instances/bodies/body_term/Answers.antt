use Rattle.ghc_fire.proofs.Words.{sym, ◌∙◌, IfOk-weaker, renamed}
use Rattle.ghc_fire.proofs.Rebuilding.{replace_closed}
use Rattle.ghc_fire.proofs.instances.bodies.body_term.Goals as goal

pub returns-then-is_closed : goal.returns-then-is_closed
returns-then-is_closed c =
    let same = replace_closed (renamed c.args.head_variables c.args.theta.now c.args.number) c.args.term.now (c.is_closed.ensures.0 c.if-is_closed.true) in
    IfOk-weaker c.share.result _ _ (λ t e. e ∙ sym same) c.share.ensures
