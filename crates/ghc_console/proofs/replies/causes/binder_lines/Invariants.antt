use Rattle.ghc_console.proofs.CitedWords.{◌≡◌, ◌++◌, map, drop, string_bytes, binder_text, text_lines}
use Rattle.ghc_console.proofs.replies.causes.binder_lines.Given as goal

abbrev pub invariant-loop-binder : goal.invariant-loop-binder
invariant-loop-binder l = string_bytes l.reply ++ text_lines (map binder_text (drop l.binder-index l.told)) ≡ string_bytes l.fn.reply ++ text_lines (map binder_text l.told)
