use Rattle.ghc_console.proofs.CitedWords.{◌≡◌, ◌++◌, map, drop, string_bytes, reason_text, text_lines}
use Rattle.ghc_console.proofs.replies.causes.reason_lines.Given as goal

abbrev pub invariant-loop-reason : goal.invariant-loop-reason
invariant-loop-reason l = string_bytes l.reply ++ text_lines (map reason_text (drop l.reason-index l.reasons)) ≡ string_bytes l.fn.reply ++ text_lines (map reason_text l.reasons)
