use Rattle.ghc_console.proofs.CitedWords.{◌≡◌, ◌++◌, map, drop, string_bytes, text_lines}
use Rattle.ghc_console.specs.Looks.{cause_text}
use Rattle.ghc_console.proofs.replies.all_causes.cause_lines.Given as goal

abbrev pub invariant-loop-reason : goal.invariant-loop-reason
invariant-loop-reason l = string_bytes l.reply ++ text_lines (map (cause_text l.number) (drop l.reason-index l.reasons)) ≡ string_bytes l.fn.reply ++ text_lines (map (cause_text l.number) l.reasons)
