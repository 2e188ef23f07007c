use Rattle.ghc_console.proofs.CitedWords.{◌≡◌, ◌+◌, ◌≤◌, take, length, codes, string_bytes}
use Rattle.std.specs.Prelude.{string_capacity, string_len}
use Rattle.ghc_console.specs.inner.KeepingCode.{AddsRollbacks}
use Rattle.ghc_console.proofs.replies.rollbacks.roll_all.Given as goal

abbrev pub invariant-loop-number : goal.invariant-loop-number
invariant-loop-number l =
    AddsRollbacks l.fn.core.world (take l.number-index l.ns) (string_bytes l.fn.reply) (string_bytes l.reply) l.core.world
    × (string_len l.reply + length (codes "F1 no memory\n") ≤ string_capacity l.reply)
    × (l.core.meter.firings ≡ l.fn.core.meter.firings)
