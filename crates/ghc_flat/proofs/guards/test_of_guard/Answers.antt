use Rattle.ghc_flat.proofs.Words.{not_both}
use Rattle.ghc_flat.proofs.Tests.{makes_comparison, compares_among, left_among, right_among}
use Rattle.ghc_flat.proofs.guards.test_of_guard.Goals as goal
use Rattle.ghc_flat.proofs.guards.test_of_guard.Goals.{else-are_among-via-then-are_among+else-are_among-2, else-are_among-via-else-are_among}

pub returns-then-are_among-2 : goal.returns-then-are_among-2
returns-then-are_among-2 c =
    rw c.in-Comparison.is
    (makes_comparison c.args.count _ c.in-Comparison.left c.in-Comparison.right
    (c.are_among.ensures.0 c.if-are_among.true) (c.are_among-then-are_among.ensures.0 c.if-are_among-2.true))

pub returns-else-are_among : goal.returns-else-are_among
returns-else-are_among c = λ ts m.
    let both = compares_among c.args.count c.in-Comparison.comparison c.in-Comparison.left c.in-Comparison.right ts (rw c.in-Comparison.is at m) in
    elim c.else-are_among.branch [
      | else-are_among-via-then-are_among+else-are_among-2 w ↦ not_both w.are_among-then-are_among.result w.if-are_among-2.false (w.are_among-then-are_among.ensures.1 (right_among c.args.count _ _ both))
      | else-are_among-via-else-are_among w ↦ not_both c.are_among.result w.if-are_among.false (c.are_among.ensures.1 (left_among c.args.count _ _ both))
    ]
