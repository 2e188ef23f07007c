use Rattle.std.proofs.Common.{◌≡◌, ℕ, ◌<◌, ◌≤◌, get_or}
use Rattle.ghc_console.proofs.devices.script.front_len.Given as goal

-- no byte so far is a line feed
abbrev pub invariant-loop-i : goal.invariant-loop-i
invariant-loop-i l = record {
  room : l.i ≤ l.room;
  none : (k : ℕ) → k < l.i → get_or l.bytes k 0 ≡ 10 → ⊥;
}
