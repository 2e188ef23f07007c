use Rattle.ghc_trace.proofs.Words.{◌≡◌, ◌||◌, ◌<◌, All, drop, Predicate}
use Rattle.ghc_trace.proofs.SpyOrder.{has}
use Rattle.ghc_trace.proofs.spies.SpySet.in_order.Given as goal

abbrev pub invariant-loop-spied : goal.invariant-loop-spied
invariant-loop-spied l = record {
  members : (q : Predicate) → (has q l.ordered.keys || has q (drop l.spied-index l.spied-items)) ≡ has q l.spied-items;
  small : All (λ p. p.arity < 4294967296) l.ordered.keys;
}
