use Rattle.ghc_term.proofs.Words.{sym, subst, IsAcyclic, AreKnown, AreKnownBut, OnOk}
use Rattle.ghc_term.proofs.Merged.{none_more}
use Rattle.ghc_term.proofs.store.Store.know.Goals as goal

pub invariant_of-overlay : goal.invariant_of-overlay
invariant_of-overlay c = record { acyclic = subst IsAcyclic (sym (none_more _ _ c.new-none.ensures)) c.acyclic.ensures }

pub learn-requires : goal.learn-requires
learn-requires c = subst (λ S. AreKnownBut S c.args.x c.args.known.now) (sym (none_more _ _ c.new-none.ensures)) c.requires

pub returns : goal.returns
returns c = subst (λ S. OnOk c.learn.result (AreKnown S c.learn.new.known)) (none_more _ _ c.new-none.ensures) c.learn.ensures
