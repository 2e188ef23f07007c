use Rattle.std.proofs.Common.{rules}
use Rattle.ghc_records.proofs.CutLemmas.{over_it}
use Rattle.ghc_records.proofs.text.cutting.value_of.Goals as goal

pub returns-then-value-gt4294967295-clause-none : goal.returns-then-value-gt4294967295-clause-none
returns-then-value-gt4294967295-clause-none c digits =
    over_it c.args.word.now c.loop-byte.byte-index c.loop-byte.value (search rules) c.loop-byte.invariant.value (search rules)
