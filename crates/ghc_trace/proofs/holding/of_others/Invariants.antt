use Rattle.ghc_trace.proofs.Words.{◌≢◌, take, Picks}
use Rattle.ghc_trace.proofs.holding.of_others.Given as goal

abbrev pub invariant-loop-holder : goal.invariant-loop-holder
invariant-loop-holder l = Picks (λ h. h.goal ≢ l.goal) (take l.holder-index l.holders) l.others.items
