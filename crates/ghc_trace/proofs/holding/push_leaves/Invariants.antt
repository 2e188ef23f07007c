use Rattle.std.specs.Prelude.{◌≡◌, ◌++◌, map, reverse}
use Rattle.ghc_hooks.specs.Reached.{leaves}
use Rattle.ghc_trace.proofs.Held.{parts}
use Rattle.ghc_hooks.proofs.Leaves.{all_leaves}
use Rattle.ghc_trace.proofs.holding.push_leaves.Given as goal

abbrev pub invariant-loop-part : goal.invariant-loop-part
invariant-loop-part l = map (λ t. t.now) l.terms.items ++ all_leaves (reverse l.waiting.items) ≡ map (λ t. t.now) l.initial.terms.items ++ leaves l.expression

abbrev pub decreases-loop-part : goal.decreases-loop-part
decreases-loop-part l = parts (reverse l.waiting.items)
