use Rattle.ghc_reader.proofs.Words.{◌+◌, ◌*◌, ◌<◌, length, views}
use Rattle.ghc_reader.proofs.Loops.{TermsSoFar}
use Rattle.ghc_reader.proofs.term_parser.+term.Given as goal

abbrev pub decreases-arguments : goal.decreases-arguments
decreases-arguments l = 3 * length l.tokens.now

abbrev pub decreases-list : goal.decreases-list
decreases-list l = 3 * length l.tokens.now + 2

abbrev pub decreases-term : goal.decreases-term
decreases-term l = 3 * length l.tokens.now

abbrev pub decreases-terms : goal.decreases-terms
decreases-terms l = 3 * length l.tokens.now + 1

abbrev pub invariant-terms-loop-after : goal.invariant-terms-loop-after
invariant-terms-loop-after l = record {
  read : TermsSoFar l.tokens (views l.all.items) l.rest;
  shorter : length l.rest < length l.tokens;
}

abbrev pub decreases-terms-loop-after : goal.decreases-terms-loop-after
decreases-terms-loop-after l = length l.rest
