use Rattle.ghc_term.proofs.Words.{◌≤◌, depth_of}
use Rattle.ghc_term.proofs.expr.Expr.+drop.Given as goal

abbrev pub invariant-loop-term : goal.invariant-loop-term
invariant-loop-term l = depth_of l.self ≤ depth_of l.initial.self
