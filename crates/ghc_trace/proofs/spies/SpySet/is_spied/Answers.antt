use Rattle.ghc_trace.proofs.Words.{◌≡◌, true, false, sym, subst, ◌↔◌, IsTrue, IsSpied}
use Rattle.ghc_trace.proofs.spies.SpySet.is_spied.Goals as goal

pub returns-in-Call : goal.returns-in-Call
returns-in-Call c = subst (λ g. IsTrue c.has.result ↔ IsSpied c.args.self.now g) c.in-Call.ensures c.has.ensures

pub returns-in-Unify : goal.returns-in-Unify
returns-in-Unify c = (λ h. absurd (let clash : false ≡ true = h in cc), λ s. absurd (subst (IsSpied c.args.self.now) (sym c.in-Unify.ensures) s))

pub returns-in-Assign : goal.returns-in-Assign
returns-in-Assign c = (λ h. absurd (let clash : false ≡ true = h in cc), λ s. absurd (subst (IsSpied c.args.self.now) (sym c.in-Assign.ensures) s))

pub returns-in-Stream : goal.returns-in-Stream
returns-in-Stream c = (λ h. absurd (let clash : false ≡ true = h in cc), λ s. absurd (subst (IsSpied c.args.self.now) (sym c.in-Stream.ensures) s))
