use Rattle.ghc_hooks.proofs.Words.{map, take, value_at, In, TakesUpAll}
use Rattle.ghc_hooks.proofs.reached.take_up_all.Given as goal

abbrev pub invariant-loop-name : goal.invariant-loop-name
invariant-loop-name l =
    TakesUpAll (value_at l.store.held) (λ x. In x (take l.name-index l.names)) l.initial.reached l.reached (map (λ t. t.now) l.initial.waiting.items) (map (λ t. t.now) l.waiting.items)
