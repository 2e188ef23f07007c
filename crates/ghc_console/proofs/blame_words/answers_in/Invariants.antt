use Rattle.ghc_console.proofs.CitedWords.{◌≡◌, ◌⊎◌, length, words_of}
use Rattle.ghc_console.specs.BlameWords.{answers_of}
use Rattle.ghc_console.specs.LineMemory.{BeginsWithAnswer}
use Rattle.ghc_console.proofs.Ordering.{behind}
use Rattle.ghc_console.proofs.blame_words.answers_in.Given as goal

abbrev pub invariant-loop-word : goal.invariant-loop-word
invariant-loop-word l =
    (behind l.answers (answers_of (words_of l.rest)) ≡ answers_of (words_of l.words))
    × ((words_of l.rest ≡ words_of l.words) ⊎ BeginsWithAnswer (words_of l.words))

abbrev pub decreases-loop-word : goal.decreases-loop-word
decreases-loop-word l = length (words_of l.rest)
