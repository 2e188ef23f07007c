use Rattle.std.proofs.Common.{vec_len}
use Rattle.ghc_unify.proofs.Partings.{Split}
use Rattle.ghc_unify.proofs.parting.strip_common_tail.Given as goal

abbrev pub invariant-loop-shared : goal.invariant-loop-shared
invariant-loop-shared l = Split l.initial.left.items l.initial.right.items l.left.items l.right.items l.shared

abbrev pub decreases-loop-shared : goal.decreases-loop-shared
decreases-loop-shared l = vec_len l.left
