use Rattle.ghc_match.proofs.Words.{◌≡◌, ◌≤◌, drop, length, laid_over}
use Rattle.ghc_match.proofs.stands.share_few.Given as goal

abbrev pub invariant-loop-place : goal.invariant-loop-place
invariant-loop-place l = (l.place ≤ length l.few) × (l.shared ≡ laid_over l.place (drop l.place l.few) l.fn.others)

abbrev pub decreases-loop-place : goal.decreases-loop-place
decreases-loop-place l = l.place
