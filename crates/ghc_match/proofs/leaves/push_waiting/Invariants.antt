use Rattle.ghc_match.proofs.Words.{◌≡◌, ◌++◌, reverse, leaf_variables}
use Rattle.ghc_match.proofs.PushLeaves.{leaves, parts}
use Rattle.ghc_match.proofs.leaves.push_waiting.Given as goal

abbrev pub invariant-loop-part : goal.invariant-loop-part
invariant-loop-part l = l.names.items ++ leaves (reverse l.waiting.items) ≡ l.initial.names.items ++ leaf_variables l.expression

abbrev pub decreases-loop-part : goal.decreases-loop-part
decreases-loop-part l = parts (reverse l.waiting.items)
