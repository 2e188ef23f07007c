use Rattle.ghc_fire.proofs.Words.{sym, ◌∙◌, replacement}
use Rattle.ghc_fire.proofs.Rebuilding.{replace_closed}
use Rattle.ghc_fire.proofs.instances.leaves.replace_leaf.Goals as goal

pub returns-then-is_closed : goal.returns-then-is_closed
returns-then-is_closed c = c.in_ok-share.ensures ∙ sym (replace_closed (replacement c.args.by) c.args.term.now (c.is_closed.ensures.0 c.if-is_closed.true))
