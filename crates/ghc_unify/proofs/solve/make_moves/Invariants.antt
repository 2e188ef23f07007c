use Rattle.ghc_unify.proofs.Words.{◌-◌, length, reverse, value_at}
use Rattle.std.specs.FinMap as finite
use Rattle.ghc_unify.proofs.Runs.{Run}
use Rattle.ghc_unify.proofs.Scope.{scope}
use Rattle.ghc_unify.proofs.solve.make_moves.Given as goal

abbrev pub invariant-loop-equations : goal.invariant-loop-equations
invariant-loop-equations l = Run (value_at l.store.held) l.left l.right l.solved.binds l.solved.reads (reverse l.equations.items)

abbrev pub decreases-loop-equations : goal.decreases-loop-equations
decreases-loop-equations l = length (scope l.store.held l.left l.right) - finite.len l.solved.binds
