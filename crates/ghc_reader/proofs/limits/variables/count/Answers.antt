use Rattle.std.proofs.Common.{◌∙◌}
use Rattle.ghc_reader.proofs.Counting.{as_number, counted_step, few_step, met_step}
use Rattle.ghc_reader.proofs.limits.variables.count.Goals as goal

pub loop-name-preserved : goal.loop-name-preserved
loop-name-preserved c =
    let names = c.args.names.now in
    let i = c.loop-name.name-index in
    let x = c.name-item.result in
    let further = c.in_ok-is_further.field-0 in
    let more = c.from.ensures ∙ as_number further in
    record {
      counted = counted_step names i x c.loop-name.named.keys c.loop-name.count further c.from.result c.loop-name-test.true c.name-item.is c.loop-name.invariant.counted c.loop-name.invariant.known c.in_ok-is_further.ensures.further more;
      few = few_step c.loop-name.count i further c.from.result c.loop-name.invariant.few more;
      known = met_step names i x c.loop-name.named.keys c.is_further.new.named.keys c.loop-name-test.true c.name-item.is c.loop-name.invariant.known c.in_ok-is_further.ensures.met;
    }
