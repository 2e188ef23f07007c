use Rattle.ghc_console.proofs.CitedWords.{string_bytes}
use Rattle.ghc_console.proofs.LookReplies.{TellsCausesUpTo}
use Rattle.ghc_console.proofs.replies.all_causes.causes.Given as goal

abbrev pub invariant-loop-place : goal.invariant-loop-place
invariant-loop-place l = TellsCausesUpTo l.records.held l.records.slots l.place (string_bytes l.reply)
