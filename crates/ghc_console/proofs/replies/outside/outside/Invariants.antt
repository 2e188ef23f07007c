use Rattle.ghc_console.proofs.CitedWords.{take, drop}
use Rattle.ghc_console.proofs.Parting.{IsParting}
use Rattle.ghc_console.proofs.replies.outside.outside.Given as goal

abbrev pub invariant-loop-number : goal.invariant-loop-number
invariant-loop-number l = IsParting l.part (take l.number-index l.numbers) (drop l.number-index l.numbers) l.next l.rest.items
