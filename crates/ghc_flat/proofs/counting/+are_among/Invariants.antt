use Rattle.ghc_flat.proofs.Words.{◌≤◌, ◌↔◌, depth_of, leaf_variables, AreAmong}
use Rattle.ghc_flat.proofs.counting.+are_among.Given as goal

-- the variables of the whole are among the first ones where those of the rest are
abbrev pub invariant-loop-term : goal.invariant-loop-term
invariant-loop-term l =
    (depth_of l.part ≤ depth_of l.fn.expression) × (AreAmong l.count (leaf_variables l.part) ↔ AreAmong l.count (leaf_variables l.fn.expression))
