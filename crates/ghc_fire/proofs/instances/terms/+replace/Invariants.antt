use Rattle.ghc_fire.proofs.Words.{◌≡◌, ◌+◌, ◌*◌, ◌≤◌, false, map, take, trees, height, height_of_all, replace, replacement}
use Rattle.ghc_fire.proofs.Walked.{Walked}
use Rattle.ghc_fire.proofs.instances.terms.+replace.Given as goal

abbrev pub decreases-replace_open : goal.decreases-replace_open
decreases-replace_open l = 3 * height l.term.now + 1

abbrev pub decreases-replace_part : goal.decreases-replace_part
decreases-replace_part l = 3 * height l.term.now + 2

abbrev pub decreases-replace_each : goal.decreases-replace_each
decreases-replace_each l = 3 * height_of_all (trees l.terms.now)

abbrev pub invariant-replace_open-loop-place : goal.invariant-replace_open-loop-place
invariant-replace_open-loop-place l = record { lower : height l.place ≤ height l.term; walked : Walked (replacement l.by) l.term l.fronts.items l.place l.count l.rest }

abbrev pub decreases-replace_open-loop-place : goal.decreases-replace_open-loop-place
decreases-replace_open-loop-place l = height l.place

abbrev pub invariant-replace_each-loop-term : goal.invariant-replace_each-loop-term
invariant-replace_each-loop-term l = record {
  made : l.arguments.items ≡ map (replace (replacement l.by)) (take l.term-index l.terms);
  stay : l.changed ≡ false → map (replace (replacement l.by)) (take l.term-index l.terms) ≡ take l.term-index l.terms;
}
