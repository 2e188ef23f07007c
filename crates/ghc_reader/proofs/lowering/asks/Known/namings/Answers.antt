use Rattle.ghc_reader.proofs.AsksLowered.{namings_more}
use Rattle.ghc_reader.proofs.lowering.asks.Known.namings.Goals as goal

pub loop-name-preserved : goal.loop-name-preserved
loop-name-preserved c = namings_more c.args.self.now c.args.names.now c.loop-name.name-index c.name-item.result c.naming.result c.loop-name.named.items _ c.loop-name-test.true c.name-item.is c.in_ok-push.ensures.items c.loop-name.invariant c.naming.ensures
