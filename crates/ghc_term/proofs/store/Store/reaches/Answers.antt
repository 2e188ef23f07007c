use Rattle.ghc_term.proofs.Words.{sym, subst, ◌↔◌, IfOk, IsTrue, IsAcyclic, Reaches}
use Rattle.ghc_term.proofs.Merged.{none_more}
use Rattle.ghc_term.proofs.store.Store.reaches.Goals as goal

pub invariant_of-overlay : goal.invariant_of-overlay
invariant_of-overlay c = record { acyclic = subst IsAcyclic (sym (none_more _ _ c.new-none.ensures)) c.acyclic.ensures }

pub returns : goal.returns
returns c = subst (λ S. IfOk c.reaches.result (λ yes. IsTrue yes ↔ Reaches S c.args.from.now c.args.to)) (none_more _ _ c.new-none.ensures) c.reaches.ensures
