use Rattle.ghc_unify.proofs.Words.{reverse, value_at, with_bindings, merged}
use Rattle.ghc_unify.proofs.Falling.{weights}
use Rattle.ghc_unify.proofs.ByPairs.{Paired}
use Rattle.ghc_unify.proofs.step.advance_noting.Given as goal

abbrev pub invariant-loop-left : goal.invariant-loop-left
invariant-loop-left l =
    let S = value_at l.store.held in
    Paired S (with_bindings l.binds S) (reverse l.initial.equations.items) (reverse l.equations.items) l.initial.reads l.reads l.met.keys

abbrev pub decreases-loop-left : goal.decreases-loop-left
decreases-loop-left l = weights (merged l.binds l.store.held) (reverse l.equations.items)
