use Rattle.ghc_hooks.proofs.Words.{map, value_at, sizes}
use Rattle.ghc_hooks.proofs.Reaching.{Reaching}
use Rattle.ghc_hooks.proofs.reached.reached_from.Given as goal

abbrev pub invariant-loop-term : goal.invariant-loop-term
invariant-loop-term l = Reaching (value_at l.store.held) (map (λ t. t.now) l.initial.waiting.items) l.reached (map (λ t. t.now) l.waiting.items)

abbrev pub decreases-loop-term : goal.decreases-loop-term
decreases-loop-term l = sizes l.store.held (map (λ t. t.now) l.waiting.items)
