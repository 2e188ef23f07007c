use Rattle.ghc_term.proofs.Words.{◌+◌, ◌*◌, take, trees, height, height_of_all}
use Rattle.ghc_term.proofs.Along.{Along, LeavesAll}
use Rattle.ghc_term.proofs.measure.+measure.Given as goal

abbrev pub decreases-measure : goal.decreases-measure
decreases-measure l = 2 * height l.term.now + 1

abbrev pub decreases-measure_all : goal.decreases-measure_all
decreases-measure_all l = 2 * height_of_all (trees l.terms.now)

abbrev pub invariant-measure-loop-k : goal.invariant-measure-loop-k
invariant-measure-loop-k l = Along l.term l.depth l.initial.left l.place l.part l.within l.left

abbrev pub decreases-measure-loop-k : goal.decreases-measure-loop-k
decreases-measure-loop-k l = height l.part

abbrev pub invariant-measure_all-loop-term : goal.invariant-measure_all-loop-term
invariant-measure_all-loop-term l = LeavesAll (take l.term-index l.terms) l.depth l.initial.left l.left
