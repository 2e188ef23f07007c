use Rattle.std.proofs.Common.{arith, rules}
use Rattle.ghc_records.proofs.AmountLines.{too_great, unsaid}
use Rattle.ghc_records.proofs.text.chronicle_lines.number_up_to.Goals as goal

pub returns-then-value-limit-clause-none : goal.returns-then-value-limit-clause-none
returns-then-value-limit-clause-none c =
    too_great c.args.line.now c.args.front.now c.in-Some.word.now c.in-Some-number.value c.args.limit c.in-Some.ensures.some c.in-Some-number.ensures.some c.in-Some-number.ensures.small (search rules) (omega (arith, c.ranges.limit))

pub returns-in-None-clause-none : goal.returns-in-None-clause-none
returns-in-None-clause-none c = unsaid c.args.line.now c.args.front.now c.in-Some.word.now c.args.limit c.in-Some.ensures.some (omega (arith, c.ranges.limit)) c.in-None.ensures.none
