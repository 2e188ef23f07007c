use Rattle.std.proofs.Common.{rules, sym}
use Rattle.ghc_console.proofs.WordLemmas.{over_it}
use Rattle.ghc_console.proofs.words.number.Goals as goal

pub returns-then-value-gt4294967295 : goal.returns-then-value-gt4294967295
returns-then-value-gt4294967295 c =
    sym (over_it c.args.word.now c.loop-byte.byte-index c.loop-byte.value (search rules) c.loop-byte.invariant.value (search rules))
