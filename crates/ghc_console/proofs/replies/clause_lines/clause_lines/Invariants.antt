use Rattle.ghc_console.proofs.CitedWords.{string_bytes, value_at}
use Rattle.ghc_console.proofs.LookReplies.{TellsFirst}
use Rattle.ghc_console.proofs.replies.clause_lines.clause_lines.Given as goal

abbrev pub invariant-loop-number : goal.invariant-loop-number
invariant-loop-number l = TellsFirst l.lines l.program l.arguments (value_at l.store.held) l.number-items l.number-index (string_bytes l.reply)
