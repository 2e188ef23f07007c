use Rattle.ghc_core.proofs.Words.{subst, In, RecordsTables}
use Rattle.ghc_core.proofs.changes.arrange.boxed_in_order.Goals as goal

pub returns-clause-kept : goal.returns-clause-kept
returns-clause-kept c r i = c.in_ok-new.ensures.kept r (subst (λ (x : RecordsTables). In r x.held) c.in_ok-new-2.ensures.ok i)
