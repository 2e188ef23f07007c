use Rattle.ghc_core.proofs.Redone.{if_ok}
use Rattle.ghc_trace.proofs.AskedAbout.{asked_are}
use Rattle.ghc_trace.proofs.asked_about.asked_about.Goals as goal

pub returns : goal.returns
returns c =
    if_ok c.ancestors_of.result c.ancestors_of.ensures (λ xs is. asked_are c.args.core.now.world c.in_ok-waits.waits c.in_ok-waits.ensures c.args.first.now c.members.result.now c.members.ensures.all c.requires.unbound xs is)
