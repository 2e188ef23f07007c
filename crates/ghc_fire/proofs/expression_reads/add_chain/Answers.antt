use Rattle.ghc_fire.proofs.Words.{on_ok_weaker}
use Rattle.ghc_fire.proofs.Gathered.{gains_leaf}
use Rattle.ghc_fire.proofs.expression_reads.add_chain.Goals as goal

pub returns : goal.returns
returns c =
    let w = c.in_ok-passed.ensures in
    let leads = rw (← c.deref.ensures.value) at w.1 in
    on_ok_weaker c.add_all.result (λ g. gains_leaf _ c.args.reads.now c.add_all.new.reads c.args.term.now w.0 c.deref.result.now leads g) c.add_all.ensures
