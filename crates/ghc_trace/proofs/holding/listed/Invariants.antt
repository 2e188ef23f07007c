use Rattle.ghc_trace.proofs.Words.{◌≡◌, ◌++◌}
use Rattle.ghc_trace.proofs.holding.listed.Given as goal

abbrev pub invariant-loop-holder : goal.invariant-loop-holder
invariant-loop-holder l = l.list.items ++ l.holder-iterator ≡ l.holders.keys
