use Rattle.ghc_trace.proofs.Words.{take}
use Rattle.ghc_trace.specs.declared.holding.Holder.{Holder}
use Rattle.ghc_trace.specs.WhyNot.{MayGoOn}
use Rattle.ghc_trace.proofs.WrittenIn.{NoneOf}
use Rattle.ghc_trace.proofs.why_not.one_may_go_on.Given as goal

abbrev pub invariant-loop-holder : goal.invariant-loop-holder
invariant-loop-holder l = NoneOf (λ (h : Holder). MayGoOn l.core.world h.goal) (take l.holder-index l.holders)
