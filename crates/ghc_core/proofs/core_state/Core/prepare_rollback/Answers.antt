use Rattle.ghc_core.proofs.Words.{refl, subst, inl, inr, Record, IsKeptAs, IsNotKept, Core}
use Rattle.ghc_core.proofs.core_state.Core.prepare_rollback.Goals as goal

pub returns-in_default-clause-fault : goal.returns-in_default-clause-fault
returns-in_default-clause-fault c = inr (refl, subst (λ (x : Core). IsNotKept x.world.kept c.args.number) c.self.view_is c.in_default.ensures.none)

pub returns-in-Err-clause-fault : goal.returns-in-Err-clause-fault
returns-in-Err-clause-fault c = inl (refl, subst (λ (x : Core). (r : Record) × IsKeptAs x.world.kept c.args.number r) c.self.view_is (c.in-Some.kept.now, c.in-Some.ensures.found))

pub returns-in-Err-of-clause-fault : goal.returns-in-Err-of-clause-fault
returns-in-Err-of-clause-fault c = inl (refl, subst (λ (x : Core). (r : Record) × IsKeptAs x.world.kept c.args.number r) c.self.view_is (c.in-Some.kept.now, c.in-Some.ensures.found))
