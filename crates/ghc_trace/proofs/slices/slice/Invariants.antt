use Rattle.ghc_trace.proofs.Words.{◌-◌, length}
use Rattle.ghc_trace.proofs.Slicing.{IsSliced}
use Rattle.ghc_trace.proofs.slices.slice.Given as goal

abbrev pub invariant-loop-place : goal.invariant-loop-place
invariant-loop-place l = IsSliced l.records.slots l.roots l.behind.keys l.found.items

abbrev pub decreases-loop-place : goal.decreases-loop-place
decreases-loop-place l = length l.records.held - length l.found.items
