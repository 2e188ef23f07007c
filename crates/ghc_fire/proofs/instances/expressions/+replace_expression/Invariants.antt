use Rattle.ghc_fire.proofs.Words.{◌≡◌, ◌≤◌, depth_of, replace_in_expression, replacement, operated}
use Rattle.ghc_fire.proofs.instances.expressions.+replace_expression.Given as goal

abbrev pub decreases-replace_expression : goal.decreases-replace_expression
decreases-replace_expression l = depth_of l.expression.now

abbrev pub invariant-loop-term : goal.invariant-loop-term
invariant-loop-term l =
    (depth_of l.place ≤ depth_of l.expression)
    × (operated l.rights.items (replace_in_expression (replacement l.by) l.place) ≡ replace_in_expression (replacement l.by) l.expression)
