use Rattle.ghc_hooks.proofs.Words.{take, value_at, Gains, OneReaches}
use Rattle.ghc_hooks.proofs.reached.add_leaves.Given as goal

abbrev pub invariant-loop-term : goal.invariant-loop-term
invariant-loop-term l = Gains l.initial.reached l.reached (OneReaches (value_at l.store.held) (take l.term-index l.terms))
