use Rattle.ghc_match.proofs.Words.{◌≡◌, length, all_ahead}
use Rattle.ghc_match.proofs.places.next_pair.Given as goal

abbrev pub invariant-loop-head : goal.invariant-loop-head
invariant-loop-head l = all_ahead l.initial.here l.initial.pending.items ≡ all_ahead l.here l.pending.items

abbrev pub decreases-loop-head : goal.decreases-loop-head
decreases-loop-head l = length l.pending.items
