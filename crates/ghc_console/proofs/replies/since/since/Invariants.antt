use Rattle.ghc_console.proofs.CitedWords.{◌≡◌, ◌++◌, drop, string_bytes, held_in, rank, record_lines}
use Rattle.ghc_console.proofs.replies.since.since.Given as goal

abbrev pub invariant-loop-place : goal.invariant-loop-place
invariant-loop-place l =
    let held = held_in l.records.slots in
    string_bytes l.reply ++ record_lines (drop (rank l.records.slots l.place) held) ≡ record_lines (drop (rank l.records.slots l.first) held)
