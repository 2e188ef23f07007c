use Rattle.ghcdb.proofs.CitedWords.{◌≤◌, ◌-◌, length, Consumes}
use Rattle.ghcdb.proofs.text_front.read_front.Given as goal

-- What was taken from the reader is the text, which is not too long.
abbrev pub invariant-loop-piece : goal.invariant-loop-piece
invariant-loop-piece g l = Consumes (g.R.Read.remaining l.initial.reader) (g.R.Read.remaining l.reader) l.text.items × (length l.text.items ≤ l.most)

abbrev pub decreases-loop-piece : goal.decreases-loop-piece
decreases-loop-piece g l = l.most - length l.text.items
