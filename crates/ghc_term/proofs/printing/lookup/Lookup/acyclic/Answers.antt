use Rattle.ghc_term.proofs.Words.{ap, subst, sym, value_at, IsAcyclic}
use Rattle.ghc_term.specs.inner.Lookup.{held_in}
use Rattle.ghc_term.proofs.Total.{empty_acyclic}
use Rattle.ghc_term.proofs.printing.lookup.Lookup.acyclic.Goals as goal

pub returns-in-Nowhere : goal.returns-in-Nowhere
returns-in-Nowhere c = empty_acyclic _ (ap held_in c.in-Nowhere.is)

pub returns-in-In : goal.returns-in-In
returns-in-In c = subst (λ l. IsAcyclic (value_at (held_in l))) (sym c.in-In.is) c.acyclic.ensures
