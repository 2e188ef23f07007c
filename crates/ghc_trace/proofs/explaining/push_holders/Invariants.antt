use Rattle.ghc_trace.proofs.Words.{◌≡◌, ◌++◌, List, ℕ, take, string_bytes}
use Rattle.ghc_trace.specs.Explaining.{AreHolderLines}
use Rattle.ghc_trace.proofs.explaining.push_holders.Given as goal

abbrev pub invariant-loop-holder : goal.invariant-loop-holder
invariant-loop-holder l = (text : List ℕ) × AreHolderLines l.core.world (take l.holder-index l.holders) text × (string_bytes l.out ≡ string_bytes l.fn.out ++ text)
