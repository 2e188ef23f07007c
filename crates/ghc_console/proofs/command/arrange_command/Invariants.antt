use Rattle.ghc_console.proofs.CitedWords.{◌≡◌, ◌⊎◌, length, BeginsWithNumber, numbers_of, words_of}
use Rattle.ghc_console.proofs.Ordering.{behind}
use Rattle.ghc_console.proofs.command.arrange_command.Given as goal

abbrev pub invariant-loop-word : goal.invariant-loop-word
invariant-loop-word l =
    (behind l.order (numbers_of (words_of l.rest)) ≡ numbers_of (words_of l.words))
    × ((words_of l.rest ≡ words_of l.words) ⊎ BeginsWithNumber (words_of l.words))

abbrev pub decreases-loop-word : goal.decreases-loop-word
decreases-loop-word l = length (words_of l.rest)
