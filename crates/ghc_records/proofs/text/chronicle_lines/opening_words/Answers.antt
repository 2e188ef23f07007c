use Rattle.std.proofs.Common.{rules}
use Rattle.ghc_records.proofs.AmountLines.{too_many}
use Rattle.ghc_records.proofs.text.chronicle_lines.opening_words.Goals as goal

pub returns-then-count-gt1000000-clause-none : goal.returns-then-count-gt1000000-clause-none
returns-then-count-gt1000000-clause-none c = too_many c.args.count.now c.args.next.now c.in-Some.count c.in-Some.ensures.some c.in-Some.ensures.small (search rules)
