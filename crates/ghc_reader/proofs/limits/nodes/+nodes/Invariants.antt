use Rattle.ghc_reader.proofs.Words.{◌≡◌, ◌+◌, take, views, nodes_of}
use Rattle.ghc_reader.proofs.limits.nodes.+nodes.Given as goal

abbrev pub invariant-without_all-loop-term : goal.invariant-without_all-loop-term
invariant-without_all-loop-term l = l.left + nodes_of (views (take l.term-index l.terms)) ≡ l.fn.count
