use Rattle.ghc_core.proofs.Words.{map, value_at}
use Rattle.ghc_core.specs.inner.CutOut.{IsCuttingOut, IsGoingThrough}
use Rattle.ghc_core.proofs.excerpt.cut_out.Given as goal

abbrev pub invariant-loop : goal.invariant-loop
invariant-loop l = record {
  cutting : IsCuttingOut (value_at l.store.held) (value_at l.cut.held) l.terms (map (λ t. t.now) l.waiting.items);
  going : IsGoingThrough (value_at l.store.held) l.terms (map (λ t. t.now) l.waiting.items) l.counter;
}
