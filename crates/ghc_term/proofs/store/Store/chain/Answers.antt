use Rattle.ghc_term.proofs.Words.{sym, subst, IsAcyclic, Leads}
use Rattle.ghc_term.proofs.Merged.{none_more}
use Rattle.ghc_term.proofs.store.Store.chain.Goals as goal

pub invariant_of-overlay : goal.invariant_of-overlay
invariant_of-overlay c = record { acyclic = subst IsAcyclic (sym (none_more _ _ c.new-none.ensures)) c.acyclic.ensures }

pub returns : goal.returns
returns c =
    (c.in_ok-chain.chain.«end».now, rw c.into_passed.ensures (subst (λ S. Leads S c.args.term.now c.in_ok-chain.chain.passed.items c.in_ok-chain.chain.«end».now) (none_more _ _ c.new-none.ensures) c.in_ok-chain.ensures))
