use Rattle.std.proofs.Common.{inr, refl}
use Rattle.ghc_core.proofs.Firings.{one_more_counted}
use Rattle.ghc_core.proofs.ResumeSteps.{one_more_carried, stops_here}
use Rattle.ghc_core.proofs.core_state.Core.carry_out_each.Goals as goal

pub returns-in-Ok-Refused-clause-refused : goal.returns-in-Ok-Refused-clause-refused
returns-in-Ok-Refused-clause-refused c =
    let i = c.loop-index.index in
    inr (
      i,
      refl,
      stops_here c.args.entries.now i c.index-entries-index.result c.loop-index-test.true c.index-entries-index.is c.args.self.now.world c.loop-index.self.world c.loop-index.invariant.carried
          (c.in-Ok-Refused.ensures.refused c.in-Ok-Refused.field-0-is),
    )

pub loop-index-preserved : goal.loop-index-preserved
loop-index-preserved c =
    let yes = c.in-Ok-CarriedOut.field-0-is in
    record {
      carried = one_more_carried c.args.entries.now c.loop-index.index c.index-entries-index.result c.loop-index-test.true c.index-entries-index.is c.args.self.now.world c.loop-index.self.world c.loop-index.invariant.carried
          c.carry_out_entry.new.self.world (c.in-Ok-CarriedOut.ensures.carried yes);
      meter = one_more_counted c.args.entries.now c.loop-index.index c.index-entries-index.result c.loop-index-test.true c.index-entries-index.is c.args.self.now.meter c.loop-index.self.meter c.carry_out_entry.new.self.meter c.loop-index.invariant.meter
          (c.in-Ok-CarriedOut.ensures.meter yes);
      notes = λ none. c.in-Ok-CarriedOut.ensures.notes (c.loop-index.invariant.notes none) yes;
    }
