use Rattle.ghc_console.proofs.CitedWords.{◌≡◌, length, unindented, words_of}
use Rattle.ghc_console.proofs.words.next_word.Given as goal

-- the words that are left are all, and so is what stands after the spaces in front
abbrev pub invariant-loop-i : goal.invariant-loop-i
invariant-loop-i l = (words_of l.rest ≡ words_of l.line) × (unindented l.rest ≡ unindented l.line)

abbrev pub decreases-loop-i : goal.decreases-loop-i
decreases-loop-i l = length l.rest
