use Rattle.ghc_match.proofs.Words.{◌≡◌, ahead_in}
use Rattle.ghc_match.proofs.places.Places.take_last.Given as goal

abbrev pub invariant-loop-self : goal.invariant-loop-self
invariant-loop-self l = ahead_in l.initial.self ≡ ahead_in l.self

abbrev pub decreases-loop-self : goal.decreases-loop-self
decreases-loop-self l = l.self.left
